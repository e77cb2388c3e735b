use Rattle.std.proofs.Common.{◌≡◌, ◌+◌, drop, length, sum_by}
use Rattle.tw_history.proofs.soundness.threads.total_size.Given as goal

abbrev pub invariant-loop-event : goal.invariant-loop-event
invariant-loop-event l = l.total + sum_by (λ event. length event) (drop l.event-index l.events) ≡ sum_by
    (λ event. length event) l.events
