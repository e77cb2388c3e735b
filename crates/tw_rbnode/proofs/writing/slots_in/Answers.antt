use Rattle.std.proofs.Common.{◌≡◌, ◌++◌, ◌∷◌, [], ◌+◌, ℕ, suc, List, drop, length, take, sym, ap, ◌∙◌, arith, slice_get}
use Rattle.std.specs.Prelude.{Some}
use Rattle.tw_rbnode.specs.declared.slot.Slot.{Slot}
use Rattle.tw_rbnode.specs.NodeBytes.{slots_with}
use Rattle.tw_rbnode.proofs.LinkLists.{get-behind, slots-more}
use Rattle.tw_rbnode.proofs.Rising.{read-get}
use Rattle.tw_rbnode.proofs.writing.slots_in.Goals as goal

pub loop-index-preserved : goal.loop-index-preserved
loop-index-preserved c =
    let i = c.loop-index.index in
    let link : slice_get (drop 1 c.args.links.now) c.loop-index.index ≡ Some c.link_at.result =
    get-behind c.args.links.now i ∙ ap (slice_get c.args.links.now) (let e : suc c.loop-index.index ≡ c.loop-index.index
    + 1 = omega arith in e) ∙ c.link_at.ensures in
    let entry : slice_get c.args.entries.now c.loop-index.index ≡ Some c.index-entries-index.result =
    read-get c.args.entries.now i c.index-entries-index.result c.loop-index-test.true c.index-entries-index.is in (
      c.push.ensures.items
          ∙ ap (λ (ss : List Slot). ss ++ record { link = c.link_at.result; entry = c.index-entries-index.result } ∷ [])
          c.loop-index.invariant.0
          ∙ sym (slots-more (drop 1 c.args.links.now) c.args.entries.now i c.link_at.result c.index-entries-index.result
          link entry)
          ∙ ap (λ (n : ℕ). slots_with (take n (drop 1 c.args.links.now)) (take n c.args.entries.now))
          (let e : suc c.loop-index.index ≡ c.loop-index.index + 1 = omega arith in e),
      omega (arith, ap length c.push.ensures.items, c.loop-index.invariant.1, c.push.ensures.len),
    )
