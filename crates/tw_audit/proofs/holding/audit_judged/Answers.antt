use Rattle.std.proofs.Common.{false, subst}
use Rattle.tw_chain.specs.declared.verdict.Verdict.{Verdict}
use Rattle.tw_chain.specs.Reasons.{IsVerdict}
use Rattle.tw_audit.proofs.HoldingLaws.{verdict-audit}
use Rattle.tw_audit.proofs.holding.audit_judged.Goals as goal

pub hold_bytes-requires : goal.hold_bytes-requires
hold_bytes-requires g c =
    let accepts = subst (λ (v : Verdict). IsVerdict g.H.Hasher.dig c.args.anchors.now false c.args.bytes.now v)
    c.in-Yes.is c.requires in (accepts.0.0, accepts.0.1)

pub returns-in-Yes-clause-answer : goal.returns-in-Yes-clause-answer
returns-in-Yes-clause-answer g c =
    verdict-audit g.H.Hasher.dig c.args.histories.now c.args.anchors.now c.args.bytes.now c.in-Yes.report
    c.hold_bytes.result
    (subst (λ (v : Verdict). IsVerdict g.H.Hasher.dig c.args.anchors.now false c.args.bytes.now v) c.in-Yes.is
    c.requires) c.hold_bytes.ensures
