-- What holding a proof against histories comes to.
use Rattle.std.proofs.Common.{◌≡◌, ℕ, List, false}
use Rattle.std.specs.Prelude.{Option, Some, None, Result, Ok, Err, find, not}
use Rattle.std.specs.Option.{option_map_or}
use Rattle.tw_base.specs.declared.history.report.Report.{Report}
use Rattle.tw_base.specs.declared.history.thread.Thread.{Thread}
use Rattle.tw_base.specs.history.History.{History}
use Rattle.tw_base.specs.kinds.Clash.{Pair, clash_pair}
use Rattle.tw_chain.specs.declared.proof.Proof.{Proof}
use Rattle.tw_base.specs.declared.history.report.Reason.{Reason}
use Rattle.tw_base.specs.format.Formats.{Spells}
use Rattle.tw_chain.specs.declared.verdict.Verdict.TheVariants.{Yes}
use Rattle.tw_chain.specs.Accepting.{Accepts, held, report_of}
use Rattle.tw_chain.specs.Proofs.{proof_layout}
use Rattle.tw_chain.specs.Reasons.{IsVerdict}
use Rattle.tw_audit.specs.declared.finding.AuditFault.{AuditFault}
use Rattle.tw_audit.specs.declared.finding.AuditFault.TheVariants.{NotHeld, NoMemory}
use Rattle.tw_audit.specs.declared.finding.Finding.{Finding}
use Rattle.tw_audit.specs.declared.finding.Finding.TheVariants.{Stands, Clash, NotAccepted}
use Rattle.tw_audit.specs.Auditing.{IsAudit, IsAuditAnswer, agrees_with, audit_answer, audited_texts, auth_in, of_pair}

module _ (dig : List ℕ → List ℕ) (family : List History) (anchors : List Thread) (p : Proof) where
  abbrev told : Option Thread → Result Finding AuditFault → Result Finding AuditFault
  told o rest = option_map_or (λ (t : Thread). Err (NotHeld t (auth_in dig family t))) o rest

  abbrev first : Option Thread
  first = find (λ (t : Thread). not (agrees_with dig family t)) (held anchors p)

  -- an answer is never that the proof isn't accepted
  never-rejected : (reason : Reason) → Ok (NotAccepted reason) ≡ audit_answer dig family anchors p → ⊥
  never-rejected reason is = by first (clash_pair dig (audited_texts dig family p)) is
    where
      by : (o : Option Thread) (pair : Option Pair) → (Ok (NotAccepted reason)) ≡ told o
          (Ok (of_pair dig (report_of p) pair)) → ⊥
      by None None e = cc
      by None (Some pair) e = cc
      by (Some t) pair e = cc

-- what is found of an accepted proof is what an audit of its bytes answers
pub answer-audit : (dig : List ℕ → List ℕ) (family : List History) (anchors : List Thread) (bytes : List ℕ)
    (accepts : Accepts dig anchors bytes) (result : Result Finding AuditFault)
    → IsAuditAnswer dig family anchors accepts.0 result → IsAudit dig family anchors bytes result
answer-audit dig family anchors bytes accepts (Ok (Stands report)) is = (accepts, is)
answer-audit dig family anchors bytes accepts (Ok (Clash one other digest)) is = (accepts, is)
answer-audit dig family anchors bytes accepts (Ok (NotAccepted reason)) is =
    absurd (never-rejected dig family anchors accepts.0 reason is)
answer-audit dig family anchors bytes accepts (Err (NotHeld t found)) is = (accepts, is)
answer-audit dig family anchors bytes accepts (Err NoMemory) is = tt

-- of a verdict that accepts
pub verdict-audit : (dig : List ℕ → List ℕ) (family : List History) (anchors : List Thread) (bytes : List ℕ)
    (report : Report) (result : Result Finding AuditFault)
    → IsVerdict dig anchors false bytes (Yes report) → ((p : Proof) → Spells proof_layout bytes p → report ≡ report_of p
    → IsAuditAnswer dig family anchors p result)
    → IsAudit dig family anchors bytes result
verdict-audit dig family anchors bytes report result verdict holds =
    let accepts : Accepts dig anchors bytes = verdict.0 in
    answer-audit dig family anchors bytes accepts result (holds accepts.0 accepts.1 verdict.2)
