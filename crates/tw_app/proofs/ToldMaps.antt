-- What a run of `checkmap` tells of files whose bytes the inputs tell.
use Rattle.std.proofs.Common.{◌≡◌, ◌∙◌, ℕ, List, refl, ap, sym, subst, inl, inr}
use Rattle.std.specs.Prelude.{Option, Result, Ok, Err}
use Rattle.sha2.specs.Sha256.{sha256}
use Rattle.tw_base.specs.declared.history.thread.Thread.{Thread}
use Rattle.tw_base.specs.history.History.{History}
use Rattle.tw_disk.specs.Disk.{DiskView}
use Rattle.tw_outside.specs.Files.{Files}
use Rattle.tw_words.specs.declared.command.Command.TheVariants.{CheckMap}
use Rattle.tw_text.specs.declared.fault.CommandFault.{CommandFault}
use Rattle.tw_text.specs.declared.fault.CommandFault.TheVariants.{DiskFault, InputFault, NoMemory, Refused, Unreadable}
use Rattle.tw_text.specs.declared.fault.CommandFault.TheVariants.{Unserved, Taken, NotFollowed}
use Rattle.tw_text.specs.declared.refusal.BadInput.{BadInput}
use Rattle.tw_text.specs.Faults.{fault_text}
use Rattle.tw_filecmd.specs.Verifying.{HasAnchors}
use Rattle.tw_tmap.specs.declared.map_file.HighFile.{HighFile}
use Rattle.tw_tmap.specs.declared.map_file.LowFile.{LowFile}
use Rattle.tw_tmap.specs.declared.map_verdict.MapVerdict.{MapVerdict}
use Rattle.tw_tmap.specs.declared.map_verdict.MapVerdict.TheVariants.{Gap, No, Yes}
use Rattle.tw_tmap.specs.Checking.{map_verdict}
use Rattle.tw_tmap.specs.MapFiles.{high_layout, low_layout}
use Rattle.tw_tmap.specs.Texts.{map_status, map_text}
use Rattle.tw_tmap.proofs.OwnMaps.{own-accepted}
use Rattle.tw_reachcmd.specs.Held.{FileHolds}
use Rattle.tw_reachcmd.specs.CheckMap.{CheckMapComes}
use Rattle.tw_app.specs.declared.outcome.Outcome.{Outcome}
use Rattle.tw_app.specs.Alike.{TellsEach}
use Rattle.tw_app.specs.Around.{Around, Writes}
use Rattle.tw_app.specs.Commands.{command_files}
use Rattle.tw_app.specs.MapRuns.{AreAsked, AreOwnMaps, EndsUnhindered, JudgesMaps, RefusesMaps, TellsMapVerdict}
use Rattle.tw_app.specs.MapRuns.{bounds_of}
use Rattle.tw_app.specs.Outcomes.{of_mapped, outcome_by, status_of, text_of}
use Rattle.tw_app.specs.Running.{EndsAllowed, EndsWith}
use Rattle.tw_app.proofs.AskedRuns.{comes_by}
use Rattle.tw_app.proofs.OneMap.{bad_map_once, maps_not_bad}
use Rattle.tw_app.proofs.ToldFiles.{has_anchors_of, held_once, holds_of}

module _ {D : Type 0} (view : D → DiskView) (a : Around D) (low : LowFile) (high : HighFile) (anchors : List Thread)
    (status : ℕ)
    (is : JudgesMaps a.outside.inputs.told a.words low high anchors) where
  abbrev told : Option Files
  told = a.outside.inputs.told

  abbrev Comes : Result MapVerdict CommandFault → Type 0
  Comes r = CheckMapComes a.outside.inputs is.low_file is.high_file is.anchors_file r

  abbrev Ending : Type 0
  Ending = TellsMapVerdict a status (map_verdict sha256 anchors low high)

  -- what the files hold

  tells : TellsEach told (command_files (CheckMap is.low_file is.high_file is.anchors_file))
  tells = ((is.low_bytes, is.low_tells), ((is.high_bytes, is.high_tells), ((is.anchors_bytes, is.anchors_tell), tt)))

  low_holds : FileHolds low_layout told is.low_file low
  low_holds = holds_of low_layout told is.low_file is.low_bytes is.low_tells low is.low_spelled

  high_holds : FileHolds high_layout told is.high_file high
  high_holds = holds_of high_layout told is.high_file is.high_bytes is.high_tells high is.high_spelled

  good : HasAnchors told is.anchors_file anchors
  good = has_anchors_of told is.anchors_file is.anchors_bytes is.anchors_tell anchors is.are_anchors

  -- so the verdict is that on these
  verdict_is : (verdict : MapVerdict) → Comes (Ok verdict) → verdict ≡ map_verdict sha256 anchors low high
  verdict_is verdict comes =
      let low_is : comes.0 ≡ low = held_once low_layout told is.low_file is.low_bytes is.low_tells comes.0 low
      comes.3.0.low_held low_holds in
      let high_is : comes.1 ≡ high = held_once high_layout told is.high_file is.high_bytes is.high_tells comes.1 high
      comes.3.0.high_held high_holds in
      let held_is : comes.2 ≡ anchors = comes.3.1.same is.anchors_bytes is.anchors_tell ∙ sym is.are_anchors.are in
      comes.3.2.is_verdict ∙ (λ k. map_verdict sha256 (held_is k) (low_is k) (high_is k))

  status_is : (verdict : MapVerdict) → status_of (of_mapped verdict) ≡ map_status verdict
  status_is (Yes l h upto) = refl
  status_is (No reason) = refl
  status_is Gap = refl

  by_result : (r : Result MapVerdict CommandFault) → Comes r → (outcome : Outcome) → outcome ≡ outcome_by of_mapped r
      → EndsWith a.taken a.sink_faults status outcome → Ending
  by_result r comes outcome came (inr cut) = inl (inr (inl (cut.0, cut.2)))
  by_result (Ok verdict) comes outcome came (inl ends) =
      let agrees = verdict_is verdict comes in
      inr (
        ends.0 ∙ ap status_of came ∙ status_is verdict ∙ ap map_status agrees,
        subst (λ (v : MapVerdict). Writes a (map_text v)) agrees (subst (λ (o : Outcome). Writes a (text_of o)) came
            ends.1),
      )
  by_result (Err InputFault) comes outcome came (inl ends) = inl (inl (ends.0 ∙ ap status_of came, comes))
  by_result (Err NoMemory) comes outcome came (inl ends) = inl (inr (inr (ends.0 ∙ ap status_of came)))
  by_result (Err DiskFault) comes outcome came (inl ends) = absurd comes
  by_result (Err Taken) comes outcome came (inl ends) = absurd comes
  by_result (Err (Refused refusal)) comes outcome came (inl ends) = absurd comes
  by_result (Err (NotFollowed refusal)) comes outcome came (inl ends) = absurd comes
  by_result (Err (Unserved cause)) comes outcome came (inl ends) = absurd comes
  by_result (Err (Unreadable bad)) comes outcome came (inl ends) =
      absurd (maps_not_bad told is.low_file is.high_file is.anchors_file tells low high anchors
      (record { low_held = low_holds; high_held = high_holds }) good bad comes)

  pub tells_verdict : EndsAllowed view a status → Ending
  tells_verdict run =
      let came = comes_by view a status run (CheckMap is.low_file is.high_file is.anchors_file) is.is_command in
      by_result came.0 came.1.0 run.0 came.2 run.1.ends

  -- two services' own files
  pub tells_bounds : (own other : History) (step top upto : ℕ) → AreAsked own other step top upto → AreOwnMaps own other
      step top upto low high anchors → EndsAllowed view a status
      → TellsMapVerdict a status (bounds_of own other step upto)
  tells_bounds own other step top upto asked are run =
      subst (λ (v : MapVerdict). TellsMapVerdict a status v)
      (own-accepted sha256 own other step top upto low high anchors asked.own_sound asked.other_sound asked.from_1
      asked.order asked.within asked.some asked.upto_within are.own_low
      are.own_high are.own_held are.other_held)
      (tells_verdict run)

-- ---- one of the files isn't what it has to be

module _ {D : Type 0} (view : D → DiskView) (a : Around D) (bad : BadInput) (status : ℕ)
    (is : RefusesMaps a.outside.inputs.told a.words bad) where
  abbrev ComesSo : Result MapVerdict CommandFault → Type 0
  ComesSo r = CheckMapComes a.outside.inputs is.low_file is.high_file is.anchors_file r

  abbrev EndsSo : Type 0
  EndsSo = EndsUnhindered a status 9 (fault_text (Unreadable bad))

  refused_by : (r : Result MapVerdict CommandFault) → ComesSo r → (outcome : Outcome) → outcome ≡ outcome_by of_mapped r
      → EndsWith a.taken a.sink_faults status outcome → EndsSo
  refused_by r comes outcome came (inr cut) = inl (inr (inl (cut.0, cut.2)))
  refused_by (Ok verdict) comes outcome came (inl ends) =
      absurd (maps_not_bad a.outside.inputs.told is.low_file is.high_file is.anchors_file is.tells comes.0 comes.1
      comes.2 comes.3.0 comes.3.1 bad is.bad_file)
  refused_by (Err (Unreadable other)) comes outcome came (inl ends) =
      let agrees : other ≡ bad = bad_map_once a.outside.inputs.told is.low_file is.high_file is.anchors_file is.tells
      other bad comes is.bad_file in
      inr (
        ends.0 ∙ ap status_of came,
        subst (λ (b : BadInput). Writes a (fault_text (Unreadable b))) agrees
            (subst (λ (o : Outcome). Writes a (text_of o)) came ends.1),
      )
  refused_by (Err InputFault) comes outcome came (inl ends) = inl (inl (ends.0 ∙ ap status_of came, comes))
  refused_by (Err NoMemory) comes outcome came (inl ends) = inl (inr (inr (ends.0 ∙ ap status_of came)))
  refused_by _ comes outcome came (inl ends) = absurd comes

  pub tells_refusal : EndsAllowed view a status → EndsSo
  tells_refusal run =
      let came = comes_by view a status run (CheckMap is.low_file is.high_file is.anchors_file) is.is_command in
      refused_by came.0 came.1.0 run.0 came.2 run.1.ends
