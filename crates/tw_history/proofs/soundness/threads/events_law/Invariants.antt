use Rattle.std.proofs.Common.{drop}
use Rattle.tw_base.specs.kinds.Bytes.{AreBytes}
use Rattle.tw_base.specs.kinds.Lists.{Each}
use Rattle.tw_history.proofs.soundness.threads.events_law.Given as goal

-- where the events that are left are bytes, they all are
abbrev pub invariant-loop-event : goal.invariant-loop-event
invariant-loop-event l = Each AreBytes (drop l.event-index l.events) → Each AreBytes l.events
