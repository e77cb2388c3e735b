use Rattle.std.proofs.Common.{◌-◌}
use Rattle.tw_rbnode.proofs.ways.+way_in.Given as goal

abbrev pub decreases-way_in : goal.decreases-way_in
decreases-way_in g l = l.high - l.low
