use Rattle.tw_verifier.proofs.StageLaws.{unfinished}
use Rattle.tw_verifier.proofs.judging.ended.Goals as goal

pub returns-in_default : goal.returns-in_default
returns-in_default c = λ dig anchors. unfinished dig anchors c.args.stage c.in_default.not-Done
