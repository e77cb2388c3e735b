use Rattle.std.proofs.Common.{refl}
use Rattle.tw_world.proofs.serving.open_for.Goals as goal

pub returns-clause-serves : goal.returns-clause-serves
returns-clause-serves c h stands = c.in_ok-service.ensures.serves h (c.stopping.ensures.stands h stands)

pub returns-clause-opens : goal.returns-clause-opens
returns-clause-opens c = (refl, (c.stopping.result, c.stopping.ensures.starts, c.in_ok-service.ensures.opens))

pub open-requires : goal.open-requires
open-requires c = (c.requires.0, c.stopping.ensures.stands c.requires.0 c.requires.1)
