use Rattle.std.proofs.Common.{List, ℕ, false, subst, sym}
use Rattle.std.specs.Prelude.{Ok, Err}
use Rattle.sha2.specs.Sha256.{sha256}
use Rattle.tw_chain.specs.Reasons.{IsVerdict}
use Rattle.tw_audit.specs.declared.finding.AuditFault.TheVariants.{NotHeld}
use Rattle.tw_reachcmd.proofs.AuditFiles.{audit_same}
use Rattle.tw_reachcmd.proofs.auditing.held_against.Goals as goal

pub audit_judged-requires : goal.audit_judged-requires
audit_judged-requires c =
    subst (λ (b : List ℕ). IsVerdict sha256 c.args.anchors.now false b c.args.judged.verdict)
    (sym c.as_slice.ensures.value) c.requires

pub returns-in-Ok : goal.returns-in-Ok
returns-in-Ok c =
    audit_same c.as_slice-2.result.now c.args.histories.now c.args.anchors.now c.as_slice.result.now
    c.args.judged.bytes.items (Ok c.in-Ok.finding)
    c.as_slice-2.ensures c.as_slice.ensures.value c.in-Ok.ensures.answer

pub returns-in-Err-NotHeld : goal.returns-in-Err-NotHeld
returns-in-Err-NotHeld c =
    audit_same c.as_slice-2.result.now c.args.histories.now c.args.anchors.now c.as_slice.result.now
    c.args.judged.bytes.items
    (Err (NotHeld c.in-Err-NotHeld.held c.in-Err-NotHeld.found)) c.as_slice-2.ensures c.as_slice.ensures.value
    (rw c.in-Err-NotHeld.field-0-is at c.in-Err-NotHeld.ensures.answer)
