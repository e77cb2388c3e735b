-- One verdict at most is that on the bytes of evidence, and one answer that of an audit.
use Rattle.std.proofs.Common.{◌≡◌, ◌∙◌, ℕ, List, refl, ap, sym, inl, inr, ◌⊎◌, false, true}
use Rattle.std.specs.Prelude.{Result, Ok, Err}
use Rattle.sha2.specs.Sha256.{sha256}
use Rattle.tw_base.specs.declared.history.report.Reason.{Reason}
use Rattle.tw_base.specs.declared.history.thread.Thread.{Thread}
use Rattle.tw_base.specs.history.History.{History}
use Rattle.tw_base.proofs.lemmas.format.FormatLaws.{one_value}
use Rattle.tw_chain.specs.declared.verdict.Verdict.TheVariants as verdict
use Rattle.tw_chain.specs.Accepting.{Accepts}
use Rattle.tw_chain.specs.Proofs.{proof_layout}
use Rattle.tw_chain.specs.Reasons.{IsVerdict}
use Rattle.tw_audit.specs.declared.finding.AuditFault.{AuditFault}
use Rattle.tw_audit.specs.declared.finding.AuditFault.TheVariants as fault
use Rattle.tw_audit.specs.declared.finding.Finding.{Finding}
use Rattle.tw_audit.specs.declared.finding.Finding.TheVariants as finding
use Rattle.tw_audit.specs.Auditing.{IsAudit, audit_answer}
use Rattle.tw_evidence.specs.declared.fork.ForkReason.TheVariants as fork
use Rattle.tw_evidence.specs.declared.fork.ForkVerdict.{ForkVerdict}
use Rattle.tw_evidence.specs.declared.fork.ForkVerdict.TheVariants.{No}
use Rattle.tw_evidence.specs.Evidence.{evidence_layout}
use Rattle.tw_evidence.specs.Forks.{IsForkVerdict, fork_verdict}
use Rattle.tw_reachcmd.specs.declared.auditing.Audited.{Audited}
use Rattle.tw_reachcmd.specs.declared.auditing.Audited.TheVariants.{Found, Unheld}
use Rattle.tw_reachcmd.specs.Auditing.{finding_answer}
use Rattle.tw_adopt.proofs.LowestReasons.{lowest_once}
use Rattle.tw_app.proofs.ToldFiles.{place_once}

-- ---- evidence of a fork

pub fork_once : (anchors : List Thread) (bytes : List ℕ) (v w : ForkVerdict) → IsForkVerdict sha256 anchors bytes v
    → IsForkVerdict sha256 anchors bytes w → v ≡ w
fork_once anchors bytes v w (inl one) (inl other) =
    one.2 ∙ sym (ap (fork_verdict sha256 anchors) (one_value evidence_layout bytes other.0 one.0 other.1 one.1))
    ∙ sym other.2
fork_once anchors bytes v w (inl one) (inr other) = absurd (other.0 one.0 one.1)
fork_once anchors bytes v w (inr one) (inl other) = absurd (one.0 other.0 other.1)
fork_once anchors bytes v w (inr one) (inr other) =
    one.1.2 ∙ ap (λ (n : ℕ). No (fork.Malformed n)) (place_once evidence_layout bytes one.1.0 other.1.0 one.1.1
    other.1.1) ∙ sym other.1.2

-- ---- audits

-- what was found, again from the answer
abbrev back : Audited → Result Finding AuditFault → Audited
back none (Ok found) = Found found
back none (Err (fault.NotHeld held found)) = Unheld held found
back none (Err fault.NoMemory) = none

back_is : (none x : Audited) → back none (finding_answer x) ≡ x
back_is none (Found found) = refl
back_is none (Unheld held found) = refl

same_answer : (x y : Audited) → finding_answer x ≡ finding_answer y → x ≡ y
same_answer x y is = sym (back_is x x) ∙ ap (back x) is ∙ back_is x y

module _ (family : List History) (anchors : List Thread) (bytes : List ℕ) where
  abbrev IsRejected : Audited → Type 0
  IsRejected x = (reason : Reason) × (x ≡ Found (finding.NotAccepted reason)) × IsVerdict sha256 anchors false bytes
      (verdict.No reason)

  abbrev IsFound : Audited → Type 0
  IsFound x = (accepts : Accepts sha256 anchors bytes) × (finding_answer x ≡ audit_answer sha256 family anchors
      accepts.0)

  either : (x : Audited) → IsAudit sha256 family anchors bytes (finding_answer x) → IsRejected x ⊎ IsFound x
  either (Found (finding.NotAccepted reason)) says = inl (reason, refl, says)
  either (Found (finding.Stands report)) says = inr says
  either (Found (finding.Clash one other digest)) says = inr says
  either (Unheld held found) says = inr says

  apart : (x y : Audited) → IsRejected x → IsFound y → ⊥
  apart x y rejected found = let strict : false ≡ true = (rejected.2.0 found.0).0 in cc

  pub audited_once : (x y : Audited) → IsAudit sha256 family anchors bytes (finding_answer x) → IsAudit sha256 family
      anchors bytes (finding_answer y) → x ≡ y
  audited_once x y says also = by (either x says) (either y also)
    where
      by : IsRejected x ⊎ IsFound x → IsRejected y ⊎ IsFound y → x ≡ y
      by (inl one) (inl other) =
          one.1 ∙ ap (λ (r : Reason). Found (finding.NotAccepted r)) (lowest_once sha256 anchors false bytes one.0
          other.0 one.2.1 other.2.1) ∙ sym other.1
      by (inl one) (inr other) = absurd (apart x y one other)
      by (inr one) (inl other) = absurd (apart y x other one)
      by (inr one) (inr other) =
          let same : other.0.0 ≡ one.0.0 = one_value proof_layout bytes other.0.0 one.0.0 other.0.1 one.0.1 in
          same_answer x y (one.1 ∙ sym (ap (audit_answer sha256 family anchors) same) ∙ sym other.1)
