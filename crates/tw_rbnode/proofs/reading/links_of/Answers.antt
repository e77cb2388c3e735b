use Rattle.std.proofs.Common.{◌≡◌, ◌+◌, ◌<◌, ℕ, ap, sym, ◌∙◌, arith, ◌⊎◌, inl, inr, slice_get}
use Rattle.std.specs.Prelude.{map, Some}
use Rattle.tw_rbnode.specs.declared.slot.Slot.{Slot}
use Rattle.tw_rbnode.proofs.HeldPages.{get-map}
use Rattle.tw_rbnode.proofs.Rising.{read-get}
use Rattle.tw_rbnode.proofs.reading.links_of.Goals as goal

pub loop-index-preserved : goal.loop-index-preserved
loop-index-preserved c = (
  c.put.ensures.others 0 (omega arith) ∙ c.loop-index.invariant.0,
  λ k l.
      let cases : (k < c.loop-index.index) ⊎ (k ≡ c.loop-index.index) = grind (arith, l) in
      elim cases [
        | inl h ↦ c.put.ensures.others (k + 1) (omega (arith, h)) ∙ c.loop-index.invariant.1 k h
        | inr h ↦
            ap (λ (n : ℕ). slice_get c.put.new.links (n + 1)) h ∙ c.put.ensures.there ∙ ap (λ (s : Slot). Some s.link)
            (sym c.index-slots-index.is)
            ∙ sym (get-map c.args.slots.now c.loop-index.index c.index-slots-index.result
            (read-get c.args.slots.now c.loop-index.index c.index-slots-index.result c.loop-index-test.true
            c.index-slots-index.is))
            ∙ ap (slice_get (map (λ (s : Slot). s.link) c.args.slots.now)) (sym h)
      ],
)
