use Rattle.std.proofs.Common.{false}
use Rattle.tw_reachcmd.proofs.fronts.judge_front.Goals as goal

pub returns-clause-verdict : goal.returns-clause-verdict
returns-clause-verdict g c = c.in_ok-verdict.ensures.verdict c.args.anchors.now false
    c.in_ok-verifier.field-0.bytes.items c.in_ok-verifier.ensures.fed
