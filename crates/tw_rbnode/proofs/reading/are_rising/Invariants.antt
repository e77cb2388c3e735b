use Rattle.std.proofs.Common.{take}
use Rattle.tw_base.specs.history.Tree.{IsRising}
use Rattle.tw_rbnode.proofs.reading.are_rising.Given as goal

abbrev pub invariant-loop-index : goal.invariant-loop-index
invariant-loop-index l = IsRising (take l.index l.entries)
