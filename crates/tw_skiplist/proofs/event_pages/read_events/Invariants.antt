use Rattle.std.proofs.Common.{◌≡◌, ◌≤◌, take, length}
use Rattle.tw_base.specs.kinds.Lists.{Each}
use Rattle.tw_base.specs.declared.kinds.limits.TheConstants.{MOST_EVENT_BYTES}
use Rattle.tw_steppage.specs.StepBytes.{stream}
use Rattle.tw_skiplist.proofs.event_pages.read_events.Given as goal

abbrev pub invariant-loop-index : goal.invariant-loop-index
invariant-loop-index l = record {
  so_far : stream l.events ≡ take l.at l.bytes;
  within : l.at ≤ length l.bytes;
  count : length l.events ≡ l.index;
  sizes : Each (λ event. length event ≤ MOST_EVENT_BYTES) l.events;
}
