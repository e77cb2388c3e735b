use Rattle.std.proofs.Common.{◌≡◌, ◌++◌, take}
use Rattle.tw_rbtree.proofs.proving.push_way.Given as goal

abbrev pub invariant-loop-index : goal.invariant-loop-index
invariant-loop-index l = l.ancestors ≡ l.initial.ancestors ++ take l.index l.way.nodes
