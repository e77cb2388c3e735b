use Rattle.std.proofs.Common.{◌<◌, ◌≤◌, take}
use Rattle.tw_base.specs.kinds.Lists.{Each}
use Rattle.tw_history.proofs.stops.next_stop.Given as goal

abbrev pub invariant-loop-step : goal.invariant-loop-step
invariant-loop-step l = record {
  beyond : l.after < l.next;
  within : l.next ≤ l.last;
  between : Each (λ step. step < l.next → step ≤ l.after) (take l.step-index l.asked);
}
