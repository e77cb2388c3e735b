use Rattle.std.proofs.Common.{◌≡◌, List, length, sym, ap, ◌∙◌, subst, arith, slice_get}
use Rattle.tw_base.specs.declared.history.thread.Entry.{Entry}
use Rattle.tw_base.specs.kinds.Lists.{Each}
use Rattle.tw_base.specs.history.Limits.{IsEntryInRange}
use Rattle.tw_rbnode.specs.declared.links.Link.{Link}
use Rattle.tw_rbnode.specs.declared.slot.Slot.{Slot}
use Rattle.tw_rbnode.specs.NodeBytes.{links_of, slots_with}
use Rattle.tw_rbnode.specs.Page.{TreePage, shape_of}
use Rattle.tw_rbnode.specs.Shape.{size}
use Rattle.tw_rbnode.proofs.LinkLists.{links-held, links-size, slots-each, slots-size}
use Rattle.tw_rbnode.proofs.writing.slots_of.Goals as goal

pub returns-clause-slots : goal.returns-clause-slots
returns-clause-slots c =
    let n = c.node.inside in
    let t = shape_of 25 (slice_get n.links) n.top in
    let sized : size (shape_of 25 (slice_get n.links) n.top) ≡ length n.entries.items = c.node.invariant.1.sized in
    let same : length c.as_slice.result.now ≡ length n.entries.items = ap length c.as_slice.ensures.value in
    c.slots_in.ensures.slots
    ∙ ap (λ (xs : List Link). slots_with xs c.as_slice.result.now) (links-held n.links t (length c.as_slice.result.now)
    c.slots_in.ensures.long (omega arith) (omega (arith, c.node.invariant.1.most)) c.node.invariant.0.at)
    ∙ ap (λ (es : List Entry). slots_with (links_of 0 t) es) c.as_slice.ensures.value
    ∙ ap (λ (p : TreePage). slots_with (links_of 0 p.shape) p.entries) c.node.view_is

pub returns-clause-count : goal.returns-clause-count
returns-clause-count c =
    let n = c.node.inside in
    let t = shape_of 25 (slice_get n.links) n.top in
    let sized : size (shape_of 25 (slice_get n.links) n.top) ≡ length n.entries.items = c.node.invariant.1.sized in
    let counted : length (slots_with (links_of 0 (shape_of 25 (slice_get n.links) n.top)) n.entries.items) ≡ length
    n.entries.items = slots-size (links_of 0 t) n.entries.items (links-size 0 t ∙ sized) in
    ap length (returns-clause-slots c) ∙ sym (ap (λ (p : TreePage). length (slots_with (links_of 0 p.shape) p.entries))
    c.node.view_is) ∙ counted ∙ ap (λ (p : TreePage). length p.entries) c.node.view_is

pub returns-clause-ranges : goal.returns-clause-ranges
returns-clause-ranges c =
    let n = c.node.inside in
    let ranges : Each IsEntryInRange c.args.node.now.entries = subst (λ (p : TreePage). Each IsEntryInRange p.entries)
    c.node.view_is c.node.invariant.1.ranges in
    let P : List Slot → Type 0 = Each (λ s. IsEntryInRange s.entry) in
    subst P (sym (returns-clause-slots c)) (slots-each IsEntryInRange (links_of 0 c.args.node.now.shape)
    c.args.node.now.entries ranges)
