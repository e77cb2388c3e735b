use Rattle.std.proofs.Common.{◌≡◌, ◌+◌, ◌*◌, length}
use Rattle.tw_base.proofs.lemmas.format.PutLaws.{ManyPut}
use Rattle.tw_rbnode.specs.NodeBytes.{slot_codec}
use Rattle.tw_rbnode.proofs.writing.put_slots.Given as goal

abbrev pub invariant-loop-slot : goal.invariant-loop-slot
invariant-loop-slot l = ManyPut slot_codec.write slot_codec.Fits l.initial.page l.page l.slots l.slot-index
    × (length l.page ≡ length l.initial.page + 67 * l.slot-index)
