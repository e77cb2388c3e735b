use Rattle.std.proofs.Common.{arith}
use Rattle.tw_base.proofs.lemmas.format.PutLaws.{put-all, put-more, put-none}
use Rattle.tw_rbnode.specs.NodeBytes.{slot_codec}
use Rattle.tw_rbnode.proofs.writing.put_slots.Goals as goal

pub put_slot-requires-clause-room : goal.put_slot-requires-clause-room
put_slot-requires-clause-room c = let more = c.loop-slot-test.true in
    omega (arith, c.requires.room, c.loop-slot.invariant.1, more)

pub loop-slot-init : goal.loop-slot-init
loop-slot-init c = (put-none slot_codec.write slot_codec.Fits c.args.page.now c.args.slots.now, omega arith)

pub loop-slot-preserved : goal.loop-slot-preserved
loop-slot-preserved c = (
  put-more slot_codec.write slot_codec.Fits c.args.page.now c.loop-slot.page _ c.args.slots.now c.loop-slot.slot-index
      c.slot-item.result c.loop-slot-test.true c.slot-item.is
      c.loop-slot.invariant.0 c.put_slot.ensures.bytes c.put_slot.ensures.fits,
  omega (arith, c.put_slot.ensures.size, c.loop-slot.invariant.1),
)

pub returns-clause-bytes : goal.returns-clause-bytes
returns-clause-bytes c = (put-all slot_codec.write slot_codec.Fits c.args.page.now c.loop-slot.page c.args.slots.now
    c.loop-slot.slot-index c.loop-slot-test.false c.loop-slot.invariant.0).0

pub returns-clause-fits : goal.returns-clause-fits
returns-clause-fits c = (put-all slot_codec.write slot_codec.Fits c.args.page.now c.loop-slot.page c.args.slots.now
    c.loop-slot.slot-index c.loop-slot-test.false c.loop-slot.invariant.0).1
