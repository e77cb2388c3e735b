-- The codec of tree pages is lawful.
use Rattle.std.proofs.Common.{◌≡◌, ℕ, suc, zero, ◌≤◌, Bool, length, arith}
use Rattle.std.specs.Prelude.{◌==◌, if◌then◌else◌}
use Rattle.tw_base.specs.format.Codecs.{many, nothing, number_codec, pair}
use Rattle.tw_base.proofs.lemmas.format.CodecLaws.{Lawful, lawful, lawful-by_kind, lawful-many, lawful-nothing}
use Rattle.tw_base.proofs.lemmas.format.CodecLaws.{lawful-number, lawful-pair}
use Rattle.tw_base.proofs.lemmas.history.EntryCodecLaws.{entry-lawful}
use Rattle.tw_rbnode.specs.NodeBytes.{Held, child_codec, colour_codec, counted_codec, held_codec, page_node_codec}
use Rattle.tw_rbnode.specs.NodeBytes.{slot_codec}

colour-kind : (n : ℕ) (red : Bool) → n ≤ 1 → (n == 1) ≡ red → (if red then 1 else 0) ≡ n
colour-kind zero red few is = grind arith
colour-kind (suc zero) red few is = grind arith
colour-kind (suc (suc n)) red few is = absurd (omega arith)

pub colour-lawful : Lawful colour_codec
unfolding colour_codec number_codec nothing
colour-lawful = lawful-by_kind (λ (red : Bool). if red then 1 else 0) (number_codec 1 0 1) (λ n. nothing (n == 1))
    (search lawful) (λ n _. lawful-nothing (n == 1)) (λ n red fits is. colour-kind n red fits.1 is)

pub slot-lawful : Lawful slot_codec
unfolding slot_codec
slot-lawful = search (lawful, colour-lawful, entry-lawful) depth 20

pub child-lawful : Lawful child_codec
unfolding child_codec
child-lawful = search lawful depth 20

pub held-lawful : (n : ℕ) → 1 ≤ n → n ≤ 24 → Lawful (held_codec n)
held-lawful n some few =
    lawful-pair _ _ (lawful-number 1 1 n some (omega arith))
    (λ top _. lawful-pair _ _ (lawful-many slot_codec slot-lawful n) (λ slots _. lawful-many child_codec child-lawful
    (suc n)))

pub held-count : (n : ℕ) (h : Held) → (held_codec n).Fits h → length h.1.0 ≡ n
unfolding pair many
held-count n h fits = fits.1.0.0

pub counted-lawful : Lawful counted_codec
unfolding number_codec
counted-lawful = lawful-by_kind (λ (h : Held). length h.1.0) (number_codec 1 1 24) held_codec (search lawful)
    (λ n fits. held-lawful n fits.0 fits.1) (λ n h _ fits. held-count n h fits)

pub node-lawful : Lawful page_node_codec
unfolding page_node_codec
node-lawful = search (lawful, counted-lawful) depth 20
