use Rattle.std.proofs.Common.{◌≡◌, take}
use Rattle.tw_base.specs.declared.history.thread.Thread.{Thread}
use Rattle.tw_base.specs.kinds.Lists.{Each, In}
use Rattle.tw_audit.proofs.passing.steps_held.Given as goal

abbrev pub invariant-loop-thread : goal.invariant-loop-thread
invariant-loop-thread l =
    Each (λ (t : Thread). t.from ≡ l.service → In t.step l.steps.items) (take l.thread-index l.held)
