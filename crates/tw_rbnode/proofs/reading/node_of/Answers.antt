use Rattle.std.proofs.Common.{◌≡◌, ◌+◌, length, refl, sym, ap, ◌∙◌, subst, arith, slice_get, true, false}
use Rattle.std.specs.Prelude.{map}
use Rattle.tw_base.specs.kinds.Lists.{Each}
use Rattle.tw_base.specs.history.Tree.{IsRising}
use Rattle.tw_base.specs.history.Limits.{IsEntryInRange}
use Rattle.tw_rbnode.specs.declared.slot.Slot.{Slot}
use Rattle.tw_rbnode.specs.Page.{shape_of}
use Rattle.tw_rbnode.specs.Shape.{is_red, size}
use Rattle.tw_rbnode.proofs.HeldPages.{ReadsAs, held, holds, map-each, map-size}
use Rattle.tw_rbnode.proofs.Pages.{whole_node}
use Rattle.tw_rbnode.proofs.Places.{tree_red}
use Rattle.tw_rbnode.proofs.reading.node_of.Goals as goal
use Rattle.tw_rbnode.proofs.reading.node_of.Goals.{then-link_at-via-then-link_at}
use Rattle.tw_rbnode.proofs.reading.node_of.Goals.{then-link_at-via-else-link_at+then-not-are_rising}

pub returns-in_default : goal.returns-in_default
returns-in_default c = λ p node e.
    let reads : ReadsAs c.links_of-links.result c.args.held.slots.items = subst (ReadsAs c.links_of-links.result)
    c.as_slice.ensures.value c.links_of-links.ensures.links in
    let is = held c.links_of-links.result c.args.held.slots.items c.args.held.children.items c.args.held.top p
    c.links_of-links.ensures.blank reads node e in
    let sized : length c.args.held.slots.items ≡ size p.shape = is.sized in
    c.in_default.ensures.none p.shape node.lawful.1 is.tree (omega (arith, c.len-count.ensures.value)) node.lawful.2

pub returns-then-link_at : goal.returns-then-link_at
returns-then-link_at c = λ p node e.
    let reads : ReadsAs c.links_of-links.result c.args.held.slots.items = subst (ReadsAs c.links_of-links.result)
    c.as_slice.ensures.value c.links_of-links.ensures.links in
    let is = held c.links_of-links.result c.args.held.slots.items c.args.held.children.items c.args.held.top p
    c.links_of-links.ensures.blank reads node e in
    elim c.then-link_at.branch [
      | then-link_at-via-then-link_at w ↦
          let red : is_red p.shape ≡ true = tree_red _ 0 p.shape c.args.held.top c.link_at.result is.tree
          c.link_at.ensures ∙ w.if-link_at.true in
          let black : is_red p.shape ≡ false = node.lawful.0 in
          grind arith
      | then-link_at-via-else-link_at+then-not-are_rising w ↦
          let entries = w.as_slice-else-link_at.ensures.value ∙ c.entries_of-entries.ensures
          ∙ ap (map (λ (s : Slot). s.entry)) c.as_slice-2.ensures.value ∙ is.entries in
          let yes = w.are_rising.ensures.1 (subst IsRising (sym entries) node.rising) in
          let test = w.if-not-are_rising.ensures in
          let no = w.if-not-are_rising.true in
          grind arith
    ]

pub invariant_of-result : goal.invariant_of-result
invariant_of-result c =
    let found = c.in-Some.ensures.found in
    let t = found.0 in
    let whole : c.len-count.result ≡ 0 + size found.0 = found.2 in
    let entries : c.entries_of-entries.result.items ≡ map (λ (s : Slot). s.entry) c.args.held.slots.items =
    c.entries_of-entries.ensures ∙ ap (map (λ (s : Slot). s.entry)) c.as_slice-2.ensures.value in
    let count : length c.entries_of-entries.result.items ≡ length c.args.held.slots.items = ap length entries
    ∙ map-size (λ (s : Slot). s.entry) c.args.held.slots.items in
    let black : is_red found.0 ≡ false = tree_red _ 0 t c.args.held.top c.link_at.result found.1 c.link_at.ensures
    ∙ c.if-link_at.false in
    let test = c.if-not-are_rising.ensures in
    let no = c.if-not-are_rising.false in
    let yes : c.are_rising.result ≡ true = grind arith in
    whole_node _ t c.args.held.top c.args.level _ _ found.1 (omega (arith, c.len-count.ensures.value))
    (omega (arith, c.requires.places)) (omega (arith, c.requires.some)) (omega (arith, c.requires.few))
    (black, c.in-Some._height, found.3) c.requires.level
    (subst IsRising c.as_slice-else-link_at.ensures.value (c.are_rising.ensures.0 yes))
    (subst (Each IsEntryInRange) (sym entries) (map-each IsEntryInRange c.args.held.slots.items c.requires.ranges))

pub returns : goal.returns
returns c =
    let inv = invariant_of-result c in
    let reads : ReadsAs c.links_of-links.result c.args.held.slots.items = subst (ReadsAs c.links_of-links.result)
    c.as_slice.ensures.value c.links_of-links.ensures.links in
    let entries : c.entries_of-entries.result.items ≡ map (λ (s : Slot). s.entry) c.args.held.slots.items =
    c.entries_of-entries.ensures ∙ ap (map (λ (s : Slot). s.entry)) c.as_slice-2.ensures.value in
    let count : length c.entries_of-entries.result.items ≡ length c.args.held.slots.items = ap length entries
    ∙ map-size (λ (s : Slot). s.entry) c.args.held.slots.items in
    let have = holds c.links_of-links.result c.args.held.slots.items c.entries_of-entries.result.items
    (shape_of 25 (slice_get c.links_of-links.result) c.args.held.top) c.args.held.top inv.0 (inv.1.sized ∙ count) reads
    entries in
    (inv.1, refl, λ i. (have.0 i, (have.1 i, c.args.held.children.items)))
