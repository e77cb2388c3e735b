use Rattle.std.proofs.Common.{refl, arith}
use Rattle.tw_verifier.proofs.StageLaws.{done-stays}
use Rattle.tw_verifier.proofs.tree_attempts.attempt_end.Goals as goal

pub returns-then-held-eq0 : goal.returns-then-held-eq0
returns-then-held-eq0 c =
    λ dig anchors. (refl, done-stays c.args.judgement c.args.held.now (omega (arith, c.if-held-eq0.true)))
