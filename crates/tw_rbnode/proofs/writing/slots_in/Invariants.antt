use Rattle.std.proofs.Common.{◌≡◌, drop, length, take}
use Rattle.tw_rbnode.specs.NodeBytes.{slots_with}
use Rattle.tw_rbnode.proofs.writing.slots_in.Given as goal

abbrev pub invariant-loop-index : goal.invariant-loop-index
invariant-loop-index l = (l.slots.items ≡ slots_with (take l.index (drop 1 l.links)) (take l.index l.entries))
    × (length l.slots.items ≡ l.index)
