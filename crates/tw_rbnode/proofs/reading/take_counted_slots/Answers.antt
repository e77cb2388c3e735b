use Rattle.std.proofs.Common.{length}
use Rattle.tw_base.specs.format.Codecs.{number_codec}
use Rattle.tw_base.proofs.lemmas.format.TakeLaws.{takes-kind}
use Rattle.tw_rbnode.specs.declared.reading.Held.{Held as TakenHeld}
use Rattle.tw_rbnode.specs.NodeBytes.{Held, held_codec}
use Rattle.tw_rbnode.proofs.NodeCodecs.{held-count}
use Rattle.tw_rbnode.proofs.reading.take_counted_slots.Goals as goal

pub returns-clause-takes : goal.returns-clause-takes
returns-clause-takes c =
    let number = c.in_ok-count.ensures.takes in
    takes-kind (λ (h : Held). length h.1.0) (number_codec 1 1 24) held_codec
    (λ (h : TakenHeld). (h.top, (h.slots.items, h.children.items))) c.args.bytes.now c.args.at.now c.take_number.new.at
    c.take_held.new.at c.in_ok-count.field-0 c.take_held.result
    number.0 number.1 (λ h fits. held-count c.in_ok-count.field-0 h fits) c.take_held.ensures.takes
