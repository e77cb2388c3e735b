use Rattle.std.proofs.Common.{◌≡◌, ◌-◌, ◌++◌, map, take, drop}
use Rattle.tw_base.proofs.kinds.failing.FailingCalls.count_call.Given as goal

abbrev pub invariant-loop-number : goal.invariant-loop-number
invariant-loop-number l =
    l.number-items ≡ map (λ k. k - 1) (take l.number-index l.initial.number-items) ++ drop l.number-index
    l.initial.number-items
