use Rattle.std.proofs.Common.{◌-◌}
use Rattle.tw_rbnode.proofs.labels.+label_in.Given as goal

abbrev pub decreases-label_in : goal.decreases-label_in
decreases-label_in g l = l.high - l.low
