use Rattle.std.proofs.Common.{◌-◌}
use Rattle.tw_rbnode.proofs.labels.+sides_in.Given as goal

abbrev pub decreases-sides_in : goal.decreases-sides_in
decreases-sides_in g l = l.high - l.low
