use Rattle.std.proofs.Common.{length}
use Rattle.tw_events.proofs.root.+event_root.Given as goal

abbrev pub decreases-event_root : goal.decreases-event_root
decreases-event_root g l = length l.events.now
