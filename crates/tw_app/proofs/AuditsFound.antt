-- What an audit tells, where the inputs tell the bytes of all its files and nothing hinders it.
use Rattle.std.proofs.Common.{◌≡◌, ◌∙◌, ℕ, List, [], ◌∷◌, ap, sym, subst, inl, inr}
use Rattle.std.specs.Prelude.{false, Option, Result, Ok, Err}
use Rattle.sha2.specs.Sha256.{sha256}
use Rattle.tw_base.specs.declared.history.report.Reason.{Reason}
use Rattle.tw_base.specs.declared.history.report.Report.{Report}
use Rattle.tw_base.specs.declared.history.thread.Thread.{Thread}
use Rattle.tw_base.specs.declared.kinds.limits.TheConstants.{MOST_HISTORY_BYTES}
use Rattle.tw_base.specs.history.Family.{HasThread, HasThreads}
use Rattle.tw_base.specs.history.History.{History}
use Rattle.tw_base.specs.kinds.Clash.{Clash as Clashing}
use Rattle.tw_base.proofs.lemmas.kinds.ListLemmas.{Each-parts}
use Rattle.tw_disk.specs.Disk.{DiskView}
use Rattle.tw_outside.specs.Files.{Files, TellsBytes}
use Rattle.tw_words.specs.declared.command.Command.TheVariants.{Audit}
use Rattle.tw_text.specs.Reports.{rejected_text, stands_text}
use Rattle.tw_text.specs.declared.fault.CommandFault.{CommandFault}
use Rattle.tw_text.specs.declared.fault.CommandFault.TheVariants.{DiskFault, InputFault, NoMemory, Refused, Unreadable}
use Rattle.tw_text.specs.declared.fault.CommandFault.TheVariants.{Unserved, Taken, NotFollowed}
use Rattle.tw_text.specs.declared.refusal.BadInput.TheVariants.{BadByte, BadLine, Unsound}
use Rattle.tw_chain.specs.declared.proof.Proof.{Proof}
use Rattle.tw_chain.specs.Accepting.{Accepts, IsAccepted, held, report_of}
use Rattle.tw_chain.specs.Reasons.{IsLowest}
use Rattle.tw_audit.specs.declared.finding.Finding.TheVariants.{Clash, NotAccepted, Stands}
use Rattle.tw_audit.specs.Answers.{AnswerMeans, IsClashPair, ThreadMissing}
use Rattle.tw_audit.specs.Auditing.{IsAudit, audited_texts}
use Rattle.tw_filecmd.specs.Verifying.{HasAnchors}
use Rattle.tw_reachcmd.specs.declared.auditing.Audited.{Audited}
use Rattle.tw_reachcmd.specs.declared.auditing.Audited.TheVariants.{Found, Unheld}
use Rattle.tw_reachcmd.specs.Auditing.{AuditComes, IsAudited, finding_answer}
use Rattle.tw_reachcmd.specs.AuditTexts.{audited_status, audited_text, clash_text, unheld_text}
use Rattle.tw_app.specs.declared.outcome.Outcome.{Outcome}
use Rattle.tw_app.specs.Around.{Around, Writes}
use Rattle.tw_app.specs.Audits.{EndsIn, FindsOf, IsAuditOf, IsFoundRun}
use Rattle.tw_app.specs.Outcomes.{of_audited, outcome_by, status_of, text_of}
use Rattle.tw_app.specs.Running.{EndsAllowed, EndsWith}
use Rattle.tw_app.proofs.AskedRuns.{comes_by}
use Rattle.tw_app.proofs.OneFamily.{histories_not_bad, histories_once}
use Rattle.tw_app.proofs.ToldFiles.{good_not_bad, has_anchors_of}

-- a thread that the family lacks isn't one of those that it has
missing-none : (family : List History) (anchors : List Thread) (p : Proof) (t : Thread) (found : Option (List ℕ))
    → HasThreads sha256 family (held anchors p)
    → ThreadMissing sha256 family anchors p t found → ⊥
missing-none family anchors p t found has lacks =
    let split = lacks.first.2 in
    lacks.missing (Each-parts (HasThread sha256 family) lacks.first.0 (t ∷ lacks.first.1)
    (subst (HasThreads sha256 family) split has)).1.0

-- ---- by the audit's answer

module _ {D : Type 0} (a : Around D) (status : ℕ) (bytes : List ℕ) (anchors : List Thread) (family : List History) where
  abbrev Told : Audited → Type 0
  Told x = (status ≡ audited_status x) × Writes a (audited_text x)

  rejected_of : (x : Audited) → IsAudit sha256 family anchors bytes (finding_answer x) → Told x
      → (Accepts sha256 anchors bytes → ⊥)
      → (reason : Reason) × IsLowest sha256 anchors false bytes reason × EndsIn a status 1 (rejected_text reason)
  rejected_of (Found (NotAccepted reason)) says told none = (reason, says.1, told)
  rejected_of (Found (Stands report)) says told none = absurd (none says.0)
  rejected_of (Found (Clash one other digest)) says told none = absurd (none says.0)
  rejected_of (Unheld t found) says told none = absurd (none says.0)

  module _ (p : Proof) (accepted : IsAccepted sha256 anchors p) where
    abbrev Means : Audited → Type 0
    Means x = AnswerMeans sha256 family anchors p (finding_answer x)

    unheld_of : (x : Audited) → Means x → Told x → (HasThreads sha256 family (held anchors p) → ⊥)
        → (t : Thread) × (found : Option (List ℕ)) × ThreadMissing sha256 family anchors p t found × EndsIn a status 1
        (unheld_text t found)
    unheld_of (Found (NotAccepted reason)) means told lacks = absurd (means.0 accepted)
    unheld_of (Found (Stands report)) means told lacks = absurd (lacks means.has_held)
    unheld_of (Found (Clash one other digest)) means told lacks = absurd (lacks means.has_held)
    unheld_of (Unheld t found) means told lacks = (t, found, means, told)

    module _ (has : HasThreads sha256 family (held anchors p)) where
      clash_of : (x : Audited) → Means x → Told x → Clashing sha256 (audited_texts sha256 family p)
          → (one : List ℕ) × (other : List ℕ) × (digest : List ℕ) × IsClashPair sha256 (audited_texts sha256 family p)
          one other digest
          × EndsIn a status 10 (clash_text one other digest)
      clash_of (Found (NotAccepted reason)) means told clash = absurd (means.0 accepted)
      clash_of (Found (Stands report)) means told clash = absurd (means.no_clash clash)
      clash_of (Found (Clash one other digest)) means told clash = (one, other, digest, means.pair, told)
      clash_of (Unheld t found) means told clash = absurd (missing-none family anchors p t found has means)

      stands_of : (x : Audited) → Means x → Told x → (Clashing sha256 (audited_texts sha256 family p) → ⊥)
          → EndsIn a status 0 (stands_text (report_of p))
      stands_of (Found (NotAccepted reason)) means told apart = absurd (means.0 accepted)
      stands_of (Found (Stands report)) means told apart =
          (told.0, subst (λ (r : Report). Writes a (stands_text r)) means.is_report told.1)
      stands_of (Found (Clash one other digest)) means told apart = absurd (apart means.pair.clash.0)
      stands_of (Unheld t found) means told apart = absurd (missing-none family anchors p t found has means)

  finds_of : (told : Option Files) (proof : List ℕ) (x : Audited) → TellsBytes told proof bytes → IsAudited told proof
      anchors family x
      → Told x → FindsOf a status bytes anchors family
  finds_of told proof x tells audited ended = record {
    rejected = rejected_of x (audited.answers bytes tells) ended;
    unheld = λ p spelled accepted. unheld_of p accepted x (audited.means bytes tells p spelled) ended;
    clash = λ p spelled accepted has. clash_of p accepted has x (audited.means bytes tells p spelled) ended;
    stands = λ p spelled accepted has. stands_of p accepted has x (audited.means bytes tells p spelled) ended;
  }

-- ---- runs

module _ {D : Type 0} (view : D → DiskView) (a : Around D) (status : ℕ) (bytes : List ℕ) (anchors : List Thread)
    (family : List History)
    (is : IsAuditOf a.outside.inputs.told a.words bytes anchors family) where
  abbrev Ending : Type 0
  Ending = IsFoundRun a status bytes anchors family

  good : HasAnchors a.outside.inputs.told is.anchors_file anchors
  good = has_anchors_of a.outside.inputs.told is.anchors_file is.anchor_bytes is.anchors_told anchors is.are_anchors

  by_result : (r : Result Audited CommandFault) → AuditComes a.outside.inputs is.proof_file is.anchors_file
      is.history_files r
      → (outcome : Outcome) → outcome ≡ outcome_by of_audited r → EndsWith a.taken a.sink_faults status outcome → Ending
  by_result r comes outcome came (inr cut) = inl (inr (inl (cut.0, cut.2)))
  by_result (Ok x) comes outcome came (inl ends) =
      let held : comes.0 ≡ anchors = comes.1.same is.anchor_bytes is.anchors_told ∙ sym is.are_anchors.are in
      let families : comes.2.0 ≡ family =
      histories_once MOST_HISTORY_BYTES [] is.history_bytes comes.2.0 family
      (comes.2.1.0.are is.history_bytes is.histories_told) is.are_histories in
      inr (finds_of a status bytes anchors family a.outside.inputs.told is.proof_file x is.proof_told
      (subst (λ (f : List History). IsAudited a.outside.inputs.told is.proof_file anchors f x) families
      (subst (λ (t : List Thread). IsAudited a.outside.inputs.told is.proof_file t comes.2.0 x) held comes.2.1.2))
      (ends.0 ∙ ap status_of came, subst (λ (o : Outcome). Writes a (text_of o)) came ends.1))
  by_result (Err InputFault) comes outcome came (inl ends) = inl (inl (ends.0 ∙ ap status_of came, comes))
  by_result (Err NoMemory) comes outcome came (inl ends) = inl (inr (inr (ends.0 ∙ ap status_of came)))
  by_result (Err DiskFault) comes outcome came (inl ends) = absurd comes.2
  by_result (Err Taken) comes outcome came (inl ends) = absurd comes.2
  by_result (Err (Refused refusal)) comes outcome came (inl ends) = absurd comes.2
  by_result (Err (NotFollowed refusal)) comes outcome came (inl ends) = absurd comes.2
  by_result (Err (Unserved cause)) comes outcome came (inl ends) = absurd comes.2
  by_result (Err (Unreadable (BadLine named number))) comes outcome came (inl ends) =
      absurd (good_not_bad a.outside.inputs.told is.anchors_file is.anchor_bytes is.anchors_told anchors is.proof_file
      number good comes.1)
  by_result (Err (Unreadable (BadByte named place))) comes outcome came (inl ends) =
      absurd (histories_not_bad MOST_HISTORY_BYTES [] is.history_files is.history_bytes family (BadByte named place)
      is.are_histories (comes.2.1.is_bad is.history_bytes is.histories_told))
  by_result (Err (Unreadable (Unsound named step rule))) comes outcome came (inl ends) =
      absurd (histories_not_bad MOST_HISTORY_BYTES [] is.history_files is.history_bytes family (Unsound named step rule)
      is.are_histories (comes.2.1.is_bad is.history_bytes is.histories_told))

  pub finds : EndsAllowed view a status → Ending
  finds run =
      let came = comes_by view a status run (Audit is.proof_file is.anchors_file is.history_files) is.is_command in
      by_result came.0 came.1.0 run.0 came.2 run.1.ends
