use Rattle.std.proofs.Common.{◌≡◌, ◌+◌, ◌*◌, ◌≤◌, ◌^◌, drop, sum_by}
use Rattle.tw_history.specs.WritingSteps.{step_size}
use Rattle.tw_history.proofs.sizes.steps_size.Given as goal

abbrev pub invariant-loop-step : goal.invariant-loop-step
invariant-loop-step l = record {
  size : l.size + sum_by step_size (drop l.step-index l.steps) ≡ sum_by step_size l.steps;
  small : l.size ≤ 2 ^ 22 * l.step-index;
}
