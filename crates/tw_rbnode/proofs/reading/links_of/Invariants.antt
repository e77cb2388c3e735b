use Rattle.std.proofs.Common.{◌≡◌, ◌+◌, ◌<◌, ℕ, false}
use Rattle.std.specs.Prelude.{Some, map, slice_get}
use Rattle.tw_rbnode.specs.declared.slot.Slot.{Slot}
use Rattle.tw_rbnode.specs.Slots.{link}
use Rattle.tw_rbnode.proofs.reading.links_of.Given as goal

abbrev pub invariant-loop-index : goal.invariant-loop-index
invariant-loop-index l = (slice_get l.links 0 ≡ Some (link false 0 0))
    × ((k : ℕ) → k < l.index → slice_get l.links (k + 1) ≡ slice_get (map (λ (s : Slot). s.link) l.slots) k)
