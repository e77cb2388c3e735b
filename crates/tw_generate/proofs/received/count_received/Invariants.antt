use Rattle.std.proofs.Common.{◌≡◌, ◌≤◌, length}
use Rattle.tw_base.specs.history.History.{received}
use Rattle.tw_generate.proofs.received.count_received.Given as goal

-- those so far, of which there are no more than steps
abbrev pub invariant-loop-index : goal.invariant-loop-index
invariant-loop-index l = (l.count ≡ length (received l.fn.history l.index)) × (l.count ≤ l.index)
