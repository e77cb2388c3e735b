use Rattle.tw_world.proofs.Resting.{pages-left, stands-left_one}
use Rattle.tw_world.proofs.serving.settled.Goals as goal

pub returns-clause-stands : goal.returns-clause-stands
returns-clause-stands c h stands = stands-left_one c.args.disk c.crash.new.self h c.crash.ensures.rests stands

pub returns-clause-left : goal.returns-clause-left
returns-clause-left c h stands = pages-left c.args.disk c.crash.new.self h c.crash.ensures.rests stands
