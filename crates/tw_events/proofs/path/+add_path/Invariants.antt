use Rattle.std.proofs.Common.{length}
use Rattle.tw_events.proofs.path.+add_path.Given as goal

abbrev pub decreases-add_path : goal.decreases-add_path
decreases-add_path g l = length l.events.now
