use Rattle.std.proofs.Common.{subst}
use Rattle.sha2.specs.Sha256.{sha256}
use Rattle.tw_audit.specs.Auditing.{IsAudit}
use Rattle.tw_reachcmd.specs.Auditing.{finding_answer}
use Rattle.tw_reachcmd.proofs.auditing.audit_read.Goals as goal

pub returns-in_ok-held_against-in-Ok : goal.returns-in_ok-held_against-in-Ok
returns-in_ok-held_against-in-Ok c =
    let audited = c.in_ok-held_against-in-Ok in (
      c.in-Ok.ensures.histories.1,
      subst (λ hs. IsAudit sha256 hs c.args.anchors.now c.args.judged.bytes.items (finding_answer audited.field-0))
          c.in-Ok.ensures.histories.0 audited.ensures,
    )
