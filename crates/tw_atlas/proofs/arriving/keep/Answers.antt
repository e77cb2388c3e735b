use Rattle.tw_atlas.proofs.ArrivalSteps.{apart}
use Rattle.tw_atlas.proofs.arriving.keep.Goals as goal

pub returns-clause-others : goal.returns-clause-others
returns-clause-others c service differs = c.in_ok-insert.ensures.updates.2 service
    (apart c.args.arrival.service service differs)
