-- What a run of `adopt` says by itself, and what it tells where the inputs tell the bytes of all its files and nothing
-- hinders it.
use Rattle.std.proofs.Common.{◌≡◌, ◌∙◌, ℕ, List, ◌∷◌, ap, sym, subst, arith, inl, inr}
use Rattle.std.specs.Prelude.{Option, Some, Result, Ok, Err}
use Rattle.sha2.specs.Sha256.{sha256}
use Rattle.tw_base.specs.declared.history.thread.Thread.{Thread}
use Rattle.tw_base.specs.history.History.{History}
use Rattle.tw_base.specs.history.HistoryCodec.{history_bytes, history_layout}
use Rattle.tw_base.proofs.lemmas.format.FormatLaws.{one_value}
use Rattle.tw_disk.specs.Disk.{DiskView}
use Rattle.tw_outside.specs.Files.{Files}
use Rattle.tw_words.specs.CommandLine.{command_of}
use Rattle.tw_words.specs.declared.command.Command.{Command}
use Rattle.tw_words.specs.declared.command.Command.TheVariants.{Adopt}
use Rattle.tw_text.specs.declared.fault.CommandFault.{CommandFault}
use Rattle.tw_text.specs.declared.fault.CommandFault.TheVariants as command
use Rattle.tw_text.specs.declared.refusal.BadInput.TheVariants.{BadByte, BadLine, Unsound}
use Rattle.tw_adopt.specs.declared.adopted.Adopted.{Adopted}
use Rattle.tw_adopt.specs.Adopting.{IsAdoption}
use Rattle.tw_reachcmd.specs.declared.adopting.Taken.{Taken}
use Rattle.tw_reachcmd.specs.declared.adopting.Taken.TheVariants.{File, Fault}
use Rattle.tw_reachcmd.specs.Adopting.{AdoptComes, IsAdoptionTaken}
use Rattle.tw_reachcmd.specs.AdoptTexts.{taken_status, taken_text}
use Rattle.tw_app.specs.declared.outcome.Outcome.{Outcome}
use Rattle.tw_app.specs.declared.outcome.Outcome.TheVariants.{Undone}
use Rattle.tw_app.specs.Adoptions.{AsksAdoption, IsAdoptedRun, IsAdoptingRun, IsAdoptionOf, TakesOver}
use Rattle.tw_app.specs.Around.{Around, Writes}
use Rattle.tw_app.specs.Outcomes.{of_taken, outcome_by, status_of, text_of}
use Rattle.tw_app.specs.Running.{EndsAllowed, EndsWith, work}
use Rattle.tw_app.specs.Statuses.{AreWordsOf}
use Rattle.tw_app.proofs.AskedRuns.{asked_for, comes_by, told_as}
use Rattle.tw_app.proofs.Commands.{fault_not_zero}
use Rattle.tw_app.proofs.OneAdoption.{file_not_bad, file_not_broken}
use Rattle.tw_app.proofs.ToldFiles.{good_not_bad, has_anchors_of}

-- ---- status 0

module _ {D : Type 0} (view : D → DiskView) (a : Around D) (status : ℕ) (run : EndsAllowed view a status)
    (zeroth : status ≡ 0) where
  pub adopted : AreWordsOf AsksAdoption a.words → IsAdoptedRun a.outside.inputs.told a.words a.taken.before
      a.taken.after
  adopted asks = asked_for view a status run AsksAdoption asks by
    where
      whole : (o : Outcome) → run.0 ≡ o → (status ≡ status_of o) × Writes a (text_of o)
      whole = told_as view a status run (λ cut. omega (arith, zeroth, cut.0))

      of : (history anchors proof : List ℕ) (more : List (List ℕ))
          → command_of a.words ≡ Some (Adopt history anchors proof more) → (r : Result Taken CommandFault)
          → AdoptComes a.outside.inputs history anchors (proof ∷ more) r → run.0 ≡ outcome_by of_taken r
          → IsAdoptedRun a.outside.inputs.told a.words a.taken.before a.taken.after
      of history anchors proof more is (Ok (File bytes)) comes came = record {
        history = history;
        file = anchors;
        proof = proof;
        more = more;
        anchors = comes.0;
        bytes = bytes;
        is_command = is;
        has_anchors = comes.1;
        there = comes.2;
        taken_over = comes.3;
        written = (whole (of_taken (File bytes)) came).1;
      }
      of history anchors proof more is (Ok (Fault fault)) comes came =
          absurd (omega (arith, zeroth, (whole (of_taken (Fault fault)) came).0))
      of history anchors proof more is (Err f) comes came =
          absurd (fault_not_zero f (sym (whole (Undone f) came).0 ∙ zeroth))

      by : (c : Command) → command_of a.words ≡ Some c → AsksAdoption c → (work view a.outside c).does run.0
          → IsAdoptedRun a.outside.inputs.told a.words a.taken.before a.taken.after
      by (Adopt history anchors proof more) is asks came = of history anchors proof more is came.0 came.1.0 came.2
      by _ is asks came = absurd asks

-- ---- which answer comes

module _ {D : Type 0} (a : Around D) (status : ℕ) (h : History) (anchors : List Thread) (proofs : List (List ℕ)) where
  abbrev Told : Taken → Type 0
  Told taken = (status ≡ taken_status taken) × Writes a (taken_text taken)

  by_file : (bytes : List ℕ) (adopted : Adopted) → bytes ≡ history_bytes adopted.history → IsAdoption sha256 anchors h
      proofs (Ok adopted) → Told (File bytes)
      → TakesOver a status h anchors proofs
  by_file bytes adopted file is told = (
    is.0,
    is.1,
    is.2,
    (told.0, subst (λ (b : List ℕ). Writes a b) (file ∙ ap (λ (b : Adopted). history_bytes b.history) is.3) told.1),
  )

module _ {D : Type 0} (view : D → DiskView) (a : Around D) (status : ℕ) (h : History) (anchors : List Thread)
    (proofs : List (List ℕ))
    (is : IsAdoptionOf a.outside.inputs.told a.words h anchors proofs) where
  abbrev told : Option Files
  told = a.outside.inputs.told

  abbrev files : List (List ℕ)
  files = is.proof_file ∷ is.more_files

  abbrev Ending : Type 0
  Ending = IsAdoptingRun a status h anchors proofs

  by_taken : (taken : Taken) → IsAdoptionTaken told anchors files taken h → Told a status h anchors proofs taken
      → Ending
  by_taken (File bytes) over ended =
      inr (inl (by_file a status h anchors proofs bytes over.adopted over.file (over.answers proofs is.proofs_told)
      ended))
  by_taken (Fault fault) first ended = inr (inr (fault, first proofs is.proofs_told, ended))

  by_result : (r : Result Taken CommandFault) → AdoptComes a.outside.inputs is.history_file is.anchors_file files r
      → (outcome : Outcome)
      → outcome ≡ outcome_by of_taken r → EndsWith a.taken a.sink_faults status outcome → Ending
  by_result r comes outcome came (inr cut) = inl (inr (inl (cut.0, cut.2)))
  by_result (Ok taken) comes outcome came (inl ends) =
      let held : comes.0 ≡ anchors = comes.1.same is.anchor_bytes is.anchors_told ∙ sym is.are_anchors.are in
      let of = comes.3.holds is.file_bytes is.history_told in
      let one : of.0 ≡ h = one_value history_layout is.file_bytes of.0 h of.1.spelled is.is_file.spelled in
      let over : IsAdoptionTaken told anchors files taken h =
      subst (λ (g : History). IsAdoptionTaken told anchors files taken g) one
      (subst (λ (t : List Thread). IsAdoptionTaken told t files taken of.0) held of.2) in
      by_taken taken over (ends.0 ∙ ap status_of came, subst (λ (o : Outcome). Writes a (text_of o)) came ends.1)
  by_result (Err command.InputFault) comes outcome came (inl ends) = inl (inl (ends.0 ∙ ap status_of came, comes))
  by_result (Err command.NoMemory) comes outcome came (inl ends) = inl (inr (inr (ends.0 ∙ ap status_of came)))
  by_result (Err command.DiskFault) comes outcome came (inl ends) = absurd comes
  by_result (Err command.Taken) comes outcome came (inl ends) = absurd comes
  by_result (Err (command.Refused refusal)) comes outcome came (inl ends) = absurd comes
  by_result (Err (command.NotFollowed refusal)) comes outcome came (inl ends) = absurd comes
  by_result (Err (command.Unserved cause)) comes outcome came (inl ends) = absurd comes
  by_result (Err (command.Unreadable (BadLine named number))) comes outcome came (inl ends) =
      absurd (good_not_bad told is.anchors_file is.anchor_bytes is.anchors_told anchors is.history_file number
      (has_anchors_of told is.anchors_file is.anchor_bytes is.anchors_told anchors is.are_anchors) comes.1)
  by_result (Err (command.Unreadable (BadByte named place))) comes outcome came (inl ends) =
      absurd (file_not_bad is.file_bytes h place is.is_file (comes.2 is.file_bytes is.history_told))
  by_result (Err (command.Unreadable (Unsound named step rule))) comes outcome came (inl ends) =
      absurd (file_not_broken is.file_bytes h step rule is.is_file (comes.2 is.file_bytes is.history_told))

  pub adopts : EndsAllowed view a status → Ending
  adopts run =
      let came = comes_by view a status run (Adopt is.history_file is.anchors_file is.proof_file is.more_files)
      is.is_command in
      by_result came.0 came.1.0 run.0 came.2 run.1.ends
