-- Of runs that judge a proof, where the inputs tell the bytes of both files.
use Rattle.std.proofs.Common.{◌≡◌, ℕ, false, true, List, refl, subst}
use Rattle.std.specs.Prelude.{Bool, Result, Ok, Err, map}
use Rattle.sha2.specs.Sha256.{sha256}
use Rattle.tw_base.specs.declared.history.thread.Thread.{Thread}
use Rattle.tw_base.specs.kinds.Faults.{Rose}
use Rattle.tw_disk.specs.Disk.{DiskView}
use Rattle.tw_outside.specs.Files.{TellsBytes}
use Rattle.tw_outside.specs.Asked.{Asked}
use Rattle.tw_text.specs.declared.fault.CommandFault.{CommandFault}
use Rattle.tw_text.specs.declared.fault.CommandFault.TheVariants.{InputFault, NoMemory, Unreadable}
use Rattle.tw_text.specs.declared.refusal.BadInput.TheVariants.{BadLine}
use Rattle.tw_chain.specs.declared.verdict.Verdict.{Verdict}
use Rattle.tw_chain.specs.declared.verdict.Verdict.TheVariants.{Yes, No}
use Rattle.tw_chain.specs.Binding.{BindsHistories}
use Rattle.tw_chain.specs.Reasons.{IsVerdict}
use Rattle.tw_msg.specs.AnchorsFile.{IsNoAnchors, anchor_on, lines}
use Rattle.tw_filecmd.specs.Verifying.{HasAnchors, VerifyFileComes}
use Rattle.tw_judge.specs.Told.{IsJudged, IsTold, verdict_status, verdict_text}
use Rattle.tw_app.specs.declared.outcome.Outcome.{Outcome}
use Rattle.tw_app.specs.declared.outcome.Outcome.TheVariants.{Judged}
use Rattle.tw_app.specs.Around.{Around, Writes}
use Rattle.tw_app.specs.Judging.{JudgesFiles, NoneFailed, judging}
use Rattle.tw_app.specs.Outcomes.{outcome_by, status_of, text_of}
use Rattle.tw_app.specs.Running.{EndsAllowed, IsDiskUntouched, IsOutcomeOf, work}
use Rattle.tw_app.proofs.ToldFiles.{anchors_of, bad_line_of, same, there}
use Rattle.tw_app.proofs.ToldRuns.{ComesTo, comes_to, run_ends, run_told, tells}

-- ---- the outcome of a verdict, and of a fault

status_is : (v : Verdict) → status_of (Judged v) ≡ verdict_status v
status_is (Yes report) = refl
status_is (No reason) = refl

text_is : (v : Verdict) → text_of (Judged v) ≡ verdict_text v
text_is (Yes report) = refl
text_is (No reason) = refl

-- ---- files whose bytes are told

module _ (a : Asked) (proof_file file proof anchors : List ℕ) (proof_told : TellsBytes a.told proof_file proof)
    (anchors_told : TellsBytes a.told file anchors) (strict : Bool) where
  -- a verdict on the files is one on their bytes
  judged_bytes : (v : Verdict) → VerifyFileComes a proof_file file strict (Ok v) → IsJudged strict proof anchors v
  judged_bytes v comes =
      let has : HasAnchors a.told file comes.0 = comes.1 in
      let under : comes.0 ≡ map anchor_on (lines anchors) = has.same anchors anchors_told in
      record {
        good = has.good anchors anchors_told;
        is_verdict = subst (λ (held : List Thread). IsVerdict sha256 held strict proof v) under
            (comes.2.is_verdict proof proof_told);
        binds = subst (λ (held : List Thread). BindsHistories sha256 held proof v) under
            (comes.2.binds proof proof_told);
      }

  -- and one on their bytes is one on the files
  judged_files : (v : Verdict) → IsJudged strict proof anchors v → VerifyFileComes a proof_file file strict (Ok v)
  judged_files v judged = (
    map anchor_on (lines anchors),
    anchors_of a.told file anchors anchors_told judged.good,
    record {
      there = there a.told proof_file proof proof_told;
      is_verdict = λ bytes tells. subst (λ b. IsVerdict sha256 (map anchor_on (lines anchors)) strict b v)
          (same a.told proof_file proof bytes proof_told tells) judged.is_verdict;
      binds = λ bytes tells. subst (λ b. BindsHistories sha256 (map anchor_on (lines anchors)) b v)
          (same a.told proof_file proof bytes proof_told tells) judged.binds;
    },
  )

  -- why there is no verdict on the files, where the inputs didn't fail, is why there is none on their bytes
  unjudged_bytes : (Rose a.before a.after → ⊥) → (f : CommandFault) → VerifyFileComes a proof_file file strict (Err f)
      → IsNoAnchors file anchors f
  unjudged_bytes none (Unreadable (BadLine named number)) comes = (comes.0, comes.1.bad anchors anchors_told)
  unjudged_bytes none InputFault comes = absurd (none comes)
  unjudged_bytes none NoMemory comes = tt
  unjudged_bytes none _ comes = absurd comes

  unjudged_files : (f : CommandFault) → IsNoAnchors file anchors f → VerifyFileComes a proof_file file strict (Err f)
  unjudged_files (Unreadable (BadLine named number)) is = (
    is.0,
    bad_line_of a.told file anchors anchors_told proof_file number (there a.told proof_file proof proof_told) is.1,
  )
  unjudged_files NoMemory is = tt
  unjudged_files _ is = absurd is

  -- the status and the text of what judging the files comes to are told of their bytes
  told_bytes : (Rose a.before a.after → ⊥) → (r : Result Verdict CommandFault) → VerifyFileComes a proof_file file
      strict r
      → IsTold file strict proof anchors (status_of (outcome_by Judged r)) (text_of (outcome_by Judged r))
  told_bytes none =
      tells Judged (VerifyFileComes a proof_file file strict) (IsJudged strict proof anchors) (IsNoAnchors file anchors)
      status_is text_is judged_bytes (unjudged_bytes none)

  -- what is told of their bytes is what judging the files may come to
  told_files : (status : ℕ) (text : List ℕ) → IsTold file strict proof anchors status text
      → ComesTo Judged (VerifyFileComes a proof_file file strict) status text
  told_files =
      comes_to Judged (VerifyFileComes a proof_file file strict) (IsJudged strict proof anchors)
      (IsNoAnchors file anchors) status_is text_is judged_files unjudged_files

-- ---- runs

module _ {D : Type 0} (view : D → DiskView) (a : Around D) where
  abbrev Comes : (strict : Bool) (proof_file file : List ℕ) → Outcome → Type 0
  Comes strict proof_file file outcome =
      IsOutcomeOf Judged (λ (r : Result Verdict CommandFault). VerifyFileComes a.outside.inputs proof_file file strict r
      × IsDiskUntouched view a.outside) outcome

  work_of : (strict : Bool) (proof_file file : List ℕ) (outcome : Outcome)
      → (work view a.outside (judging strict proof_file file)).does outcome
      → Comes strict proof_file file outcome
  work_of false proof_file file outcome does = does
  work_of true proof_file file outcome does = does

  of_work : (strict : Bool) (proof_file file : List ℕ) (outcome : Outcome) → Comes strict proof_file file outcome
      → (work view a.outside (judging strict proof_file file)).does outcome
  of_work false proof_file file outcome comes = comes
  of_work true proof_file file outcome comes = comes

  module _ (strict : Bool) (file proof anchors : List ℕ) (j : JudgesFiles a strict file proof anchors) where
    pub told : (status : ℕ) → NoneFailed a → EndsAllowed view a status → (text : List ℕ) × IsTold file strict proof
        anchors status text × Writes a text
    told status none run =
        run_told view a Judged (VerifyFileComes a.outside.inputs j.proof_file file strict)
        (IsTold file strict proof anchors) (judging strict j.proof_file file) j.is_command
        (work_of strict j.proof_file file)
        (told_bytes a.outside.inputs j.proof_file file proof anchors j.proof_told j.anchors_told strict none.inputs)
        none status run

    pub ends : (status : ℕ) (text : List ℕ) → IsDiskUntouched view a.outside → IsTold file strict proof anchors status
        text → Writes a text → EndsAllowed view a status
    ends status text untouched is writes =
        run_ends view a Judged (VerifyFileComes a.outside.inputs j.proof_file file strict)
        (IsTold file strict proof anchors) (judging strict j.proof_file file) j.is_command
        (of_work strict j.proof_file file) status text
        (told_files a.outside.inputs j.proof_file file proof anchors j.proof_told j.anchors_told strict status text is)
        untouched writes
