use Rattle.std.proofs.Common.{◌∙◌}
use Rattle.tw_history.proofs.Passes.{HasPassed-auth}
use Rattle.tw_history.proofs.pass.auth_passed.Goals as goal

pub returns : goal.returns
returns c = λ dig h last passed. c.at_level.ensures ∙ HasPassed-auth dig h last c.args.digests.now passed
