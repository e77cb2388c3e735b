use Rattle.std.proofs.Common.{length}
use Rattle.tw_events.proofs.told_root.+root_over_leaves.Given as goal

abbrev pub decreases-root_over_leaves : goal.decreases-root_over_leaves
decreases-root_over_leaves g l = length l.leaves.now
