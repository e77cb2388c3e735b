-- What a run of an audit says by itself.
use Rattle.std.proofs.Common.{◌≡◌, ◌∙◌, ℕ, List, sym, arith}
use Rattle.std.specs.Prelude.{Option, Some, None, MatchOption, Result, Ok, Err}
use Rattle.sha2.specs.Sha256.{sha256}
use Rattle.tw_base.specs.declared.history.thread.Thread.{Thread}
use Rattle.tw_base.specs.history.History.{History}
use Rattle.tw_disk.specs.Disk.{DiskView}
use Rattle.tw_words.specs.CommandLine.{command_of}
use Rattle.tw_words.specs.declared.command.Command.{Command}
use Rattle.tw_words.specs.declared.command.Command.TheVariants.{Accuse, Adopt, Audit, CheckFork, CheckMap, Join, Strict}
use Rattle.tw_words.specs.declared.command.Command.TheVariants.{VerifyFile, VerifyOne}
use Rattle.tw_text.specs.declared.fault.CommandFault.{CommandFault}
use Rattle.tw_text.specs.Faults.{fault_status}
use Rattle.tw_chain.specs.declared.proof.Proof.{Proof}
use Rattle.tw_chain.specs.Accepting.{Accepts}
use Rattle.tw_audit.specs.declared.finding.Finding.TheVariants.{Clash, Stands}
use Rattle.tw_audit.specs.Answers.{AnswerMeans, ReportHolds, TextsClash}
use Rattle.tw_audit.specs.Auditing.{IsAudit}
use Rattle.tw_reachcmd.specs.declared.adopting.Taken.{Taken as TakenHistory}
use Rattle.tw_reachcmd.specs.declared.adopting.Taken.TheVariants.{File, Fault}
use Rattle.tw_reachcmd.specs.declared.auditing.Audited.{Audited as AuditedProof}
use Rattle.tw_reachcmd.specs.declared.auditing.Audited.TheVariants.{Found}
use Rattle.tw_evidence.specs.declared.fork.ForkVerdict.{ForkVerdict}
use Rattle.tw_evidence.specs.declared.fork.ForkVerdict.TheVariants.{No, Yes}
use Rattle.tw_reachcmd.specs.declared.accusing.Accused.{Accused as AccusedService}
use Rattle.tw_reachcmd.specs.declared.accusing.Accused.TheVariants.{Unfit, Whole}
use Rattle.tw_tmap.specs.declared.map_verdict.MapVerdict.{MapVerdict}
use Rattle.tw_tmap.specs.declared.map_verdict.MapVerdict.TheVariants as bounds
use Rattle.tw_reachcmd.specs.Auditing.{AuditComes, finding_answer}
use Rattle.tw_app.specs.declared.outcome.Outcome.{Outcome}
use Rattle.tw_app.specs.declared.outcome.Outcome.TheVariants.{Undone}
use Rattle.tw_app.specs.Around.{Around, Outside, Writes}
use Rattle.tw_app.specs.Outcomes.{of_accused, of_audited, of_fork, of_mapped, of_taken, outcome_by, status_of, text_of}
use Rattle.tw_app.specs.Running.{EndsAllowed, work}
use Rattle.tw_app.specs.Audits.{AsksAudit, AuditsFiles, IsClashRun, IsStandingRun}
use Rattle.tw_app.specs.Statuses.{AreWordsOf, IsAnsweredRun}
use Rattle.tw_app.proofs.AskedRuns.{asked_for, told_as}
use Rattle.tw_app.proofs.Commands.{fault_not_zero}
use Rattle.tw_app.proofs.Endings.{low_fault, not_joined, not_verdict}

low_accused : (accused : AccusedService) → status_of (of_accused accused) ≡ 10 → ⊥
low_accused (Whole evidence) is = omega (arith, is)
low_accused (Unfit place) is = omega (arith, is)

low_fork : (verdict : ForkVerdict) → status_of (of_fork verdict) ≡ 10 → ⊥
low_fork (Yes shown) is = omega (arith, is)
low_fork (No reason) is = omega (arith, is)

low_map : (verdict : MapVerdict) → status_of (of_mapped verdict) ≡ 10 → ⊥
low_map (bounds.Yes low high upto) is = omega (arith, is)
low_map (bounds.No reason) is = omega (arith, is)
low_map bounds.Gap is = omega (arith, is)

low_taken : (taken : TakenHistory) → status_of (of_taken taken) ≡ 10 → ⊥
low_taken (File bytes) is = omega (arith, is)
low_taken (Fault fault) is = omega (arith, is)

-- no other command comes to an answer of this status
asks_audit : {D : Type 0} (view : D → DiskView) (o : Outside D) (c : Command) (text : List ℕ) → (work view o c).answers
    10 text → AsksAudit c
asks_audit view o (Audit proof anchors histories) text has = tt
asks_audit view o (Join files) text has = absurd (not_joined has.0 10 (λ k. omega arith) (λ k. omega arith) (sym has.2))
asks_audit view o (VerifyFile proof anchors) text has =
    absurd (not_verdict has.0 10 (λ k. omega arith) (λ k. omega arith) (sym has.2))
asks_audit view o (VerifyOne proof anchor) text has = absurd (not_verdict has.0 10 (λ k. omega arith) (λ k. omega arith)
    (sym has.2))
asks_audit view o (Strict proof anchors) text has = absurd (not_verdict has.0 10 (λ k. omega arith) (λ k. omega arith)
    (sym has.2))
asks_audit view o (Accuse first second link) text has = absurd (low_accused has.0 has.2)
asks_audit view o (Adopt history anchors proof more) text has = absurd (low_taken has.0 has.2)
asks_audit view o (CheckFork file anchors) text has = absurd (low_fork has.0 has.2)
asks_audit view o (CheckMap low high anchors) text has = absurd (low_map has.0 has.2)
asks_audit view o _ text has = absurd (let is = has.2 in omega (arith, is))

module _ {D : Type 0} (view : D → DiskView) (a : Around D) (status : ℕ) (run : EndsAllowed view a status) where
  -- words that ask for an audit, of which the run ends as no fault does, come to its answer
  by_audit : {Q : Type 0} (n : ℕ) → status ≡ n → (n ≡ 4 → ⊥) → ((f : CommandFault) → n ≡ fault_status f → ⊥)
      → ((proof anchors : List ℕ) (histories : List (List ℕ)) → command_of a.words ≡ Some (Audit proof anchors histories)
      → (x : AuditedProof) → AuditComes a.outside.inputs proof anchors histories (Ok x) → n ≡ status_of (of_audited x)
      → Writes a (text_of (of_audited x)) → Q) → AreWordsOf AsksAudit a.words → Q
  by_audit {Q} n ends other unfaulted then asks = asked_for view a status run AsksAudit asks by
    where
      told : (o : Outcome) → run.0 ≡ o → (n ≡ status_of o) × Writes a (text_of o)
      told o came =
          let ended = told_as view a status run (λ cut. other (sym ends ∙ cut.0)) o came in
          (sym ends ∙ ended.0, ended.1)

      of : (proof anchors : List ℕ) (histories : List (List ℕ)) → command_of a.words ≡ Some (Audit proof anchors
          histories) → (r : Result AuditedProof CommandFault) → AuditComes a.outside.inputs proof anchors histories r
          → run.0 ≡ outcome_by of_audited r → Q
      of proof anchors histories is (Ok x) comes came =
          let ended = told (of_audited x) came in then proof anchors histories is x comes ended.0 ended.1
      of proof anchors histories is (Err f) comes came = absurd (unfaulted f (told (Undone f) came).0)

      by : (c : Command) → command_of a.words ≡ Some c → AsksAudit c → (work view a.outside c).does run.0 → Q
      by (Audit proof anchors histories) is asks came = of proof anchors histories is came.0 came.1.0 came.2
      by _ is asks came = absurd asks

  -- what an answer on an accepted proof says of the files
  files : (P : (family : List History) (anchors : List Thread) → Proof → Type 0) (proof anchors : List ℕ)
      (histories : List (List ℕ)) → command_of a.words ≡ Some (Audit proof anchors histories) → (x : AuditedProof)
      → (comes : AuditComes a.outside.inputs proof anchors histories (Ok x))
      → ((bytes : List ℕ) → IsAudit sha256 comes.2.0 comes.0 bytes (finding_answer x) → Accepts sha256 comes.0 bytes)
      → ((p : Proof) → AnswerMeans sha256 comes.2.0 comes.0 p (finding_answer x) → P comes.2.0 comes.0 p)
      → AuditsFiles a.outside.inputs.told a.words P
  files P proof anchors histories is x comes accepts means =
      let audited = comes.2.1.2 in
      record {
        proof = proof;
        file = anchors;
        histories = histories;
        anchors = comes.0;
        family = comes.2.0;
        is_command = is;
        has_anchors = comes.1;
        hold_histories = comes.2.1.0;
        sound = comes.2.1.1;
        there = audited.there;
        spelled = λ bytes tells. let accepted = accepts bytes (audited.answers bytes tells) in (accepted.0, accepted.1);
        says = λ bytes tells p spelled. means p (audited.means bytes tells p spelled);
      }

  pub stands : status ≡ 0 → AreWordsOf AsksAudit a.words → IsStandingRun a.outside.inputs.told a.words a.taken.before
      a.taken.after
  stands zeroth = by_audit 0 zeroth (λ k. omega (arith, k)) (λ f is. fault_not_zero f (sym is)) of
    where
      of : (proof anchors : List ℕ) (histories : List (List ℕ)) → command_of a.words ≡ Some (Audit proof anchors
          histories) → (x : AuditedProof) → AuditComes a.outside.inputs proof anchors histories (Ok x)
          → 0 ≡ status_of (of_audited x) → Writes a (text_of (of_audited x))
          → IsStandingRun a.outside.inputs.told a.words a.taken.before a.taken.after
      of proof anchors histories is (Found (Stands report)) comes ended written = (
        report,
        written,
        files (λ family held p. ReportHolds sha256 family held p report) proof anchors histories is
            (Found (Stands report)) comes (λ bytes answer. answer.0) (λ p means. means),
      )
      of proof anchors histories is _ comes ended written = absurd (omega (arith, ended))

  asks_of : (text : List ℕ) (option : Option Command) → MatchOption option ⊥ (λ c. (work view a.outside c).answers 10
      text) → MatchOption option ⊥ AsksAudit
  asks_of text None has = has
  asks_of text (Some c) has = asks_audit view a.outside c text has

  pub clashes : status ≡ 10 → IsAnsweredRun view a 10 → IsClashRun a.outside.inputs.told a.words a.taken.before
      a.taken.after
  clashes tenth answered =
      by_audit 10 tenth (λ k. omega (arith, k)) (λ f is. low_fault f 10 is (omega arith)) of
      (asks_of answered.0 (command_of a.words) answered.1)
    where
      of : (proof anchors : List ℕ) (histories : List (List ℕ)) → command_of a.words ≡ Some (Audit proof anchors
          histories) → (x : AuditedProof) → AuditComes a.outside.inputs proof anchors histories (Ok x)
          → 10 ≡ status_of (of_audited x) → Writes a (text_of (of_audited x))
          → IsClashRun a.outside.inputs.told a.words a.taken.before a.taken.after
      of proof anchors histories is (Found (Clash one another digest)) comes ended written = (
        one,
        another,
        digest,
        written,
        files (λ family held p. TextsClash sha256 family held p one another digest) proof anchors histories is
            (Found (Clash one another digest)) comes (λ bytes answer. answer.0) (λ p means. means),
      )
      of proof anchors histories is _ comes ended written = absurd (omega (arith, ended))
