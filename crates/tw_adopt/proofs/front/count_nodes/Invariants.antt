use Rattle.std.proofs.Common.{◌≡◌, ◌+◌, ◌*◌, ◌≤◌, drop, sum_by}
use Rattle.tw_adopt.proofs.front.count_nodes.Given as goal

abbrev pub invariant-loop-step : goal.invariant-loop-step
invariant-loop-step l = record {
  count : l.count + sum_by (λ s. s.fresh) (drop l.step-index l.steps) ≡ sum_by (λ s. s.fresh) l.steps;
  small : l.count ≤ 65535 * l.step-index;
}
