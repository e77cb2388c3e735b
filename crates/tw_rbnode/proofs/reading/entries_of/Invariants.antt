use Rattle.std.proofs.Common.{◌≡◌, length, take}
use Rattle.std.specs.Prelude.{map}
use Rattle.tw_rbnode.specs.declared.slot.Slot.{Slot}
use Rattle.tw_rbnode.proofs.reading.entries_of.Given as goal

abbrev pub invariant-loop-slot : goal.invariant-loop-slot
invariant-loop-slot l = (l.entries.items ≡ map (λ (s : Slot). s.entry) (take l.slot-index l.slots))
    × (length l.entries.items ≡ l.slot-index)
