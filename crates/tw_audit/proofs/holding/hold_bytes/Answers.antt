use Rattle.std.proofs.Common.{ap, sym, ◌∙◌, subst}
use Rattle.tw_chain.specs.Accepting.{report_of}
use Rattle.tw_audit.specs.Auditing.{IsAuditAnswer}
use Rattle.tw_audit.proofs.AnswerLaws.{same_proof}
use Rattle.tw_audit.proofs.ShapeLaws.{proof-shaped}
use Rattle.tw_audit.proofs.holding.hold_bytes.Goals as goal

pub hold-finding-requires : goal.hold-finding-requires
hold-finding-requires g c = proof-shaped c.args.bytes.now c.in-Ok.proof c.in-Ok.ensures

pub returns-in-Ok : goal.returns-in-Ok
returns-in-Ok g c = λ p spells is_report.
    let same = same_proof c.args.bytes.now p c.in-Ok.proof spells c.in-Ok.ensures in
    subst (λ q. IsAuditAnswer g.H.Hasher.dig c.args.histories.now c.args.anchors.now q c.hold-finding.result) (sym same)
    (c.hold-finding.ensures (is_report ∙ ap report_of same))
