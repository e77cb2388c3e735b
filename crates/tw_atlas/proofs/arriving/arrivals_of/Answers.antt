use Rattle.tw_atlas.proofs.ArrivalSteps.{by-name-done}
use Rattle.tw_atlas.proofs.arriving.arrivals_of.Goals as goal

pub returns : goal.returns
returns c = by-name-done c.by_name.result c.args.stops.now c.in_ok-best.best c.by_name.ensures.ordered
    c.in_ok-best.ensures c.by_name.ensures.all
