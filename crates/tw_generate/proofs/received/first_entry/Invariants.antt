use Rattle.std.proofs.Common.{◌≡◌}
use Rattle.std.specs.Prelude.{None}
use Rattle.tw_base.specs.history.History.{received}
use Rattle.tw_tmap.specs.Bounds.{first_from}
use Rattle.tw_generate.proofs.received.first_entry.Given as goal

-- there was none so far
abbrev pub invariant-loop-index : goal.invariant-loop-index
invariant-loop-index l = first_from l.from l.least (received l.fn.history l.index) ≡ None
