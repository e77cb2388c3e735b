use Rattle.std.proofs.Common.{◌≤◌, take}
use Rattle.tw_base.specs.kinds.Lists.{Each}
use Rattle.tw_adopt.proofs.stops.last_shown.Given as goal

abbrev pub invariant-loop-step : goal.invariant-loop-step
invariant-loop-step l = record {
  within : l.last ≤ l.count;
  all : Each (λ step. step ≤ l.count → step ≤ l.last) (take l.step-index l.steps);
}
