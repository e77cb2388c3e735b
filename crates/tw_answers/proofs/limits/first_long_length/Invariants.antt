use Rattle.std.proofs.Common.{◌≡◌, drop, take}
use Rattle.tw_base.specs.kinds.Bytes.{AreBytes}
use Rattle.tw_base.specs.kinds.Lists.{Each}
use Rattle.tw_answers.specs.Limits.{first_long}
use Rattle.tw_answers.proofs.limits.first_long_length.Given as goal

abbrev pub invariant-loop-event : goal.invariant-loop-event
invariant-loop-event l = record {
  first : first_long (drop l.event-index l.events) ≡ first_long l.events;
  bytes : Each AreBytes (take l.event-index l.events);
}
