use Rattle.std.proofs.Common.{[]}
use Rattle.tw_chain.specs.Accepting.{proof_texts}
use Rattle.tw_audit.proofs.holding.hold.Goals as goal

pub returns-in-Ok : goal.returns-in-Ok
returns-in-Ok g c = λ is_report.
    c.judge.ensures c.args.anchors.now is_report c.in-Ok.ensures.missing
    (c.in-Ok.ensures.took.behind (proof_texts g.H.Hasher.dig c.args.proof.now)
    (c.hash_proof.ensures.behind [] (c.reserve.ensures [] c.new-keys.ensures)))
