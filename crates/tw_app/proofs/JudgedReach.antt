-- Of runs that judge map files or evidence, where the inputs tell the bytes of all files.
use Rattle.std.proofs.Common.{◌≡◌, ◌∙◌, ℕ, List, refl, sym, subst, inl, inr}
use Rattle.std.specs.Prelude.{Option, Result, Ok, Err, map}
use Rattle.sha2.specs.Sha256.{sha256}
use Rattle.tw_base.specs.declared.history.thread.Thread.{Thread}
use Rattle.tw_base.specs.format.Formats.{Format, IsPlace, SpellsNothing}
use Rattle.tw_base.specs.kinds.Faults.{Rose}
use Rattle.tw_disk.specs.Disk.{DiskView}
use Rattle.tw_outside.specs.Asked.{Asked}
use Rattle.tw_outside.specs.Files.{Files, TellsBytes}
use Rattle.tw_words.specs.declared.command.Command.TheVariants.{CheckMap, CheckFork}
use Rattle.tw_text.specs.declared.fault.CommandFault.{CommandFault}
use Rattle.tw_text.specs.declared.fault.CommandFault.TheVariants.{InputFault, DiskFault, NoMemory, Refused, Unserved}
use Rattle.tw_text.specs.declared.fault.CommandFault.TheVariants.{Unreadable, Taken, NotFollowed}
use Rattle.tw_text.specs.declared.refusal.BadInput.TheVariants.{BadByte, BadLine, Unsound}
use Rattle.tw_evidence.specs.declared.fork.ForkVerdict.{ForkVerdict}
use Rattle.tw_evidence.specs.declared.fork.ForkVerdict.TheVariants as fork
use Rattle.tw_evidence.specs.Binding.{BindsFork}
use Rattle.tw_evidence.specs.Forks.{IsForkVerdict}
use Rattle.tw_tmap.specs.declared.map_file.HighFile.{HighFile}
use Rattle.tw_tmap.specs.declared.map_file.LowFile.{LowFile}
use Rattle.tw_tmap.specs.declared.map_verdict.MapVerdict.{MapVerdict}
use Rattle.tw_tmap.specs.declared.map_verdict.MapVerdict.TheVariants.{Yes, No, Gap}
use Rattle.tw_tmap.specs.Binding.{BindsMap}
use Rattle.tw_tmap.specs.Checking.{map_verdict}
use Rattle.tw_tmap.specs.MapFiles.{high_layout, low_layout}
use Rattle.tw_msg.specs.AnchorsFile.{IsFirstBadLine, IsNoAnchors, anchor_on, lines}
use Rattle.tw_reachcmd.specs.CheckFork.{CheckForkComes}
use Rattle.tw_reachcmd.specs.Held.{HoldsNone}
use Rattle.tw_reachcmd.specs.CheckMap.{CheckMapComes, HoldMaps}
use Rattle.tw_judge.specs.Forks.{IsForkTold, fork_status}
use Rattle.tw_tmap.specs.Texts.{map_status}
use Rattle.tw_judge.specs.Maps.{AreMapBytesJudged, AreMaps, AreMapsTold, AreMapsUnjudged, ThreeFiles}
use Rattle.tw_app.specs.Around.{Around, Writes}
use Rattle.tw_app.specs.Judging.{JudgesEvidence, JudgesMapFiles, NoneFailed}
use Rattle.tw_app.specs.Outcomes.{of_fork, of_mapped, outcome_by, status_of, text_of}
use Rattle.tw_app.specs.Running.{EndsAllowed, IsDiskUntouched}
use Rattle.tw_app.proofs.ToldFiles.{anchors_of, bad_line_of, held_spells, holds_of, same, there}
use Rattle.tw_app.proofs.ToldRuns.{ComesTo, comes_to, run_ends, run_told, tells}

-- ---- the bytes of a told file

module _ {X : Type 0} (layout : Format X) (told : Option Files) (file bytes : List ℕ)
    (tells : TellsBytes told file bytes) where
  holds_none-of : (place : ℕ) → SpellsNothing layout bytes × IsPlace layout bytes place → HoldsNone layout told file
      place
  holds_none-of place is = record {
    there = there told file bytes tells;
    nothing = λ others other. subst (λ (b : List ℕ). SpellsNothing layout b × IsPlace layout b place)
        (same told file bytes others tells other) is;
  }

-- ---- map files

map_status_is : (v : MapVerdict) → status_of (of_mapped v) ≡ map_status v
map_status_is (Yes low high upto) = refl
map_status_is (No reason) = refl
map_status_is Gap = refl

module _ (a : Asked) (bytes names : ThreeFiles) (low_told : TellsBytes a.told names.low bytes.low)
    (high_told : TellsBytes a.told names.high bytes.high)
    (anchors_told : TellsBytes a.told names.anchors bytes.anchors) where
  abbrev MapComes : Result MapVerdict CommandFault → Type 0
  MapComes = CheckMapComes a names.low names.high names.anchors

  maps-of : (l : LowFile) (h : HighFile) → HoldMaps a.told names.low names.high l h → AreMaps bytes l h
  maps-of l h hold = record {
    low_spelled = held_spells low_layout a.told names.low bytes.low low_told l hold.low_held;
    high_spelled = held_spells high_layout a.told names.high bytes.high high_told h hold.high_held;
  }

  hold-of : (l : LowFile) (h : HighFile) → AreMaps bytes l h → HoldMaps a.told names.low names.high l h
  hold-of l h are = record {
    low_held = holds_of low_layout a.told names.low bytes.low low_told l are.low_spelled;
    high_held = holds_of high_layout a.told names.high bytes.high high_told h are.high_spelled;
  }

  map-unjudged : (Rose a.before a.after → ⊥) → (f : CommandFault) → MapComes (Err f) → AreMapsUnjudged bytes names f
  map-unjudged none (Unreadable (BadByte named place)) (inl is) = inl (is.0, is.1.nothing bytes.low low_told)
  map-unjudged none (Unreadable (BadByte named place)) (inr is) =
      inr (inl (
        (is.0.0, held_spells low_layout a.told names.low bytes.low low_told is.0.0 is.0.1),
        (is.1.0, is.1.1.nothing bytes.high high_told),
      ))
  map-unjudged none (Unreadable (BadLine named number)) is =
      inr (inr ((is.0.0, is.0.1, maps-of is.0.0 is.0.1 is.0.2), (is.1.0, is.1.1.bad bytes.anchors anchors_told)))
  map-unjudged none (Unreadable (Unsound named step rule)) is = absurd is
  map-unjudged none InputFault is = absurd (none is)
  map-unjudged none NoMemory is = inl tt
  map-unjudged none _ is = absurd is

  map-judged : (v : MapVerdict) → MapComes (Ok v) → AreMapBytesJudged bytes v
  map-judged v (l, h, held, (hold, has, judged)) =
      let under : held ≡ map anchor_on (lines bytes.anchors) = has.same bytes.anchors anchors_told in
      record {
        low = l;
        high = h;
        are = maps-of l h hold;
        good = has.good bytes.anchors anchors_told;
        is_verdict = subst (λ (ts : List Thread). v ≡ map_verdict sha256 ts l h) under judged.is_verdict;
        binds = subst (λ (ts : List Thread). BindsMap sha256 ts l h v) under judged.binds;
      }

  map-told : (Rose a.before a.after → ⊥) → (r : Result MapVerdict CommandFault) → MapComes r
      → AreMapsTold bytes names (status_of (outcome_by of_mapped r)) (text_of (outcome_by of_mapped r))
  map-told none =
      tells of_mapped MapComes (AreMapBytesJudged bytes) (AreMapsUnjudged bytes names) map_status_is (λ v. refl)
      map-judged (map-unjudged none)

  map-fault : (f : CommandFault) → AreMapsUnjudged bytes names f → MapComes (Err f)
  map-fault (Unreadable (BadByte named place)) (inl is) =
      inl (
        is.0,
        holds_none-of low_layout a.told names.low bytes.low low_told place is.1,
        there a.told names.high bytes.high high_told,
        there a.told names.anchors bytes.anchors anchors_told,
      )
  map-fault (Unreadable (BadByte named place)) (inr (inl is)) =
      inr (
        (is.0.0, holds_of low_layout a.told names.low bytes.low low_told is.0.0 is.0.1),
        (
          is.1.0,
          holds_none-of high_layout a.told names.high bytes.high high_told place is.1.1,
          there a.told names.anchors bytes.anchors anchors_told,
        ),
      )
  map-fault (Unreadable (BadByte named place)) (inr (inr is)) = absurd is.1
  map-fault (Unreadable (BadLine named number)) (inl is) = absurd is
  map-fault (Unreadable (BadLine named number)) (inr (inl is)) = absurd is.1
  map-fault (Unreadable (BadLine named number)) (inr (inr is)) = (
    (is.0.0, is.0.1, hold-of is.0.0 is.0.1 is.0.2),
    (
      is.1.0,
      record {
        there = there a.told names.anchors bytes.anchors anchors_told;
        bad = λ others tells. subst (λ b. IsFirstBadLine (lines b) number) (same a.told names.anchors bytes.anchors
            others anchors_told tells) is.1.1;
      },
    ),
  )
  map-fault (Unreadable (Unsound named step rule)) (inl is) = absurd is
  map-fault (Unreadable (Unsound named step rule)) (inr (inl is)) = absurd is.1
  map-fault (Unreadable (Unsound named step rule)) (inr (inr is)) = absurd is.1
  map-fault NoMemory is = tt
  map-fault InputFault (inl is) = absurd is
  map-fault InputFault (inr (inl is)) = absurd is.1
  map-fault InputFault (inr (inr is)) = absurd is.1
  map-fault DiskFault (inl is) = absurd is
  map-fault DiskFault (inr (inl is)) = absurd is.1
  map-fault DiskFault (inr (inr is)) = absurd is.1
  map-fault Taken (inl is) = absurd is
  map-fault (Refused refusal) (inl is) = absurd is
  map-fault (NotFollowed refusal) (inl is) = absurd is
  map-fault Taken (inr (inl is)) = absurd is.1
  map-fault (Refused refusal) (inr (inl is)) = absurd is.1
  map-fault (NotFollowed refusal) (inr (inl is)) = absurd is.1
  map-fault Taken (inr (inr is)) = absurd is.1
  map-fault (Refused refusal) (inr (inr is)) = absurd is.1
  map-fault (NotFollowed refusal) (inr (inr is)) = absurd is.1
  map-fault (Unserved cause) (inl is) = absurd is
  map-fault (Unserved cause) (inr (inl is)) = absurd is.1
  map-fault (Unserved cause) (inr (inr is)) = absurd is.1

  judged-maps : (v : MapVerdict) → AreMapBytesJudged bytes v → MapComes (Ok v)
  judged-maps v j = (
    j.low,
    j.high,
    map anchor_on (lines bytes.anchors),
    (
      hold-of j.low j.high j.are,
      anchors_of a.told names.anchors bytes.anchors anchors_told j.good,
      record { is_verdict = j.is_verdict; binds = j.binds },
    ),
  )

  map-comes : (status : ℕ) (text : List ℕ) → AreMapsTold bytes names status text
      → ComesTo of_mapped MapComes status text
  map-comes =
      comes_to of_mapped MapComes (AreMapBytesJudged bytes) (AreMapsUnjudged bytes names) map_status_is (λ v. refl)
      judged-maps map-fault

-- ---- evidence

fork_status_is : (v : ForkVerdict) → status_of (of_fork v) ≡ fork_status v
fork_status_is (fork.Yes f) = refl
fork_status_is (fork.No reason) = refl

module _ (a : Asked) (evidence_file file evidence anchors : List ℕ) (evidence_told : TellsBytes a.told evidence_file
    evidence) (anchors_told : TellsBytes a.told file anchors) where
  abbrev ForkComes : Result ForkVerdict CommandFault → Type 0
  ForkComes = CheckForkComes a evidence_file file

  fork-unjudged : (Rose a.before a.after → ⊥) → (f : CommandFault) → ForkComes (Err f) → IsNoAnchors file anchors f
  fork-unjudged none (Unreadable (BadLine named number)) comes = (comes.0, comes.1.bad anchors anchors_told)
  fork-unjudged none InputFault comes = absurd (none comes)
  fork-unjudged none NoMemory comes = tt
  fork-unjudged none _ comes = absurd comes

  fork-told : (Rose a.before a.after → ⊥) → (r : Result ForkVerdict CommandFault) → ForkComes r
      → IsForkTold file evidence anchors (status_of (outcome_by of_fork r)) (text_of (outcome_by of_fork r))
  fork-told none (Err f) comes =
      inr (record { fault = f; unjudged = fork-unjudged none f comes; status_is = refl; text_is = refl })
  fork-told none (Ok v) (held, has, judged) =
      let under : held ≡ map anchor_on (lines anchors) = has.same anchors anchors_told in
      inl (
        has.good anchors anchors_told,
        record {
          verdict = v;
          judged = record {
            is_verdict = subst (λ (ts : List Thread). IsForkVerdict sha256 ts evidence v) under
                (judged.is_verdict evidence evidence_told);
            binds = subst (λ (ts : List Thread). BindsFork sha256 ts evidence v) under
                (judged.binds evidence evidence_told);
          };
          status_is = fork_status_is v;
          text_is = refl;
        },
      )

  fork-fault : (f : CommandFault) → IsNoAnchors file anchors f → ForkComes (Err f)
  fork-fault (Unreadable (BadLine named number)) is = (
    is.0,
    bad_line_of a.told file anchors anchors_told evidence_file number
        (there a.told evidence_file evidence evidence_told) is.1,
  )
  fork-fault NoMemory is = tt
  fork-fault _ is = absurd is

  fork-comes : (status : ℕ) (text : List ℕ) → IsForkTold file evidence anchors status text → ComesTo of_fork ForkComes
      status text
  fork-comes status text (inl (good, t)) = record {
    result = Ok t.verdict;
    comes = (
      map anchor_on (lines anchors),
      anchors_of a.told file anchors anchors_told good,
      record {
        there = there a.told evidence_file evidence evidence_told;
        is_verdict = λ bytes tells. subst (λ b. IsForkVerdict sha256 (map anchor_on (lines anchors)) b t.verdict)
            (same a.told evidence_file evidence bytes evidence_told tells) t.judged.is_verdict;
        binds = λ bytes tells. subst (λ b. BindsFork sha256 (map anchor_on (lines anchors)) b t.verdict)
            (same a.told evidence_file evidence bytes evidence_told tells) t.judged.binds;
      },
    );
    status_is = t.status_is ∙ sym (fork_status_is t.verdict);
    text_is = t.text_is;
  }
  fork-comes status text (inr t) =
      record {
        result = Err t.fault;
        comes = fork-fault t.fault t.unjudged;
        status_is = t.status_is;
        text_is = t.text_is;
      }

-- ---- runs

module _ {D : Type 0} (view : D → DiskView) (a : Around D) where
  pub map_run-told : (bytes names : ThreeFiles) (status : ℕ) → JudgesMapFiles a bytes names → NoneFailed a
      → EndsAllowed view a status
      → (text : List ℕ) × AreMapsTold bytes names status text × Writes a text
  map_run-told bytes names status j none run =
      run_told view a of_mapped (CheckMapComes a.outside.inputs names.low names.high names.anchors)
      (AreMapsTold bytes names) (CheckMap names.low names.high names.anchors)
      j.is_command (λ o does. does) (map-told a.outside.inputs bytes names j.low_told j.high_told j.anchors_told
      none.inputs) none status run

  pub map_run-ends : (bytes names : ThreeFiles) (status : ℕ) (text : List ℕ) → JudgesMapFiles a bytes names
      → IsDiskUntouched view a.outside
      → AreMapsTold bytes names status text → Writes a text → EndsAllowed view a status
  map_run-ends bytes names status text j untouched told writes =
      run_ends view a of_mapped (CheckMapComes a.outside.inputs names.low names.high names.anchors)
      (AreMapsTold bytes names) (CheckMap names.low names.high names.anchors)
      j.is_command (λ o does. does) status text (map-comes a.outside.inputs bytes names j.low_told j.high_told
      j.anchors_told status text told) untouched writes

  pub fork_run-told : (file evidence anchors : List ℕ) (status : ℕ) → JudgesEvidence a file evidence anchors
      → NoneFailed a → EndsAllowed view a status
      → (text : List ℕ) × IsForkTold file evidence anchors status text × Writes a text
  fork_run-told file evidence anchors status j none run =
      run_told view a of_fork (CheckForkComes a.outside.inputs j.evidence_file file) (IsForkTold file evidence anchors)
      (CheckFork j.evidence_file file)
      j.is_command (λ o does. does) (fork-told a.outside.inputs j.evidence_file file evidence anchors j.evidence_told
      j.anchors_told none.inputs) none status run

  pub fork_run-ends : (file evidence anchors : List ℕ) (status : ℕ) (text : List ℕ) → JudgesEvidence a file evidence
      anchors → IsDiskUntouched view a.outside
      → IsForkTold file evidence anchors status text → Writes a text → EndsAllowed view a status
  fork_run-ends file evidence anchors status text j untouched told writes =
      run_ends view a of_fork (CheckForkComes a.outside.inputs j.evidence_file file) (IsForkTold file evidence anchors)
      (CheckFork j.evidence_file file)
      j.is_command (λ o does. does) status text (fork-comes a.outside.inputs j.evidence_file file evidence anchors
      j.evidence_told j.anchors_told status text told) untouched writes
