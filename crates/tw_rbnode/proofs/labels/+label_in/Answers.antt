use Rattle.std.proofs.Common.{◌≡◌, ◌+◌, ◌<◌, length, slice_get, ◌∙◌, arith}
use Rattle.tw_base.specs.history.Entries.{entry_text}
use Rattle.tw_rbnode.specs.Shape.{size}
use Rattle.tw_rbnode.specs.Trees.{labels_of}
use Rattle.tw_rbnode.proofs.Descents.{no_node, parts}
use Rattle.tw_rbnode.proofs.LabelLaws.{leaf-label, node-label}
use Rattle.tw_rbnode.proofs.Places.{tree_slot}
use Rattle.tw_rbnode.proofs.labels.+label_in.Goals as goal

pub returns-then-at-eq0 : goal.returns-then-at-eq0
returns-then-at-eq0 g t c = λ s tree whole.
    leaf-label g.H.Hasher.dig c.args.entries.now c.args.children.now c.args.low s c.index-children-low.result
    (no_node _ c.args.low s c.args.at tree c.if-at-eq0.true) (omega (arith, whole, c.requires.children))

pub link_at-link-requires : goal.link_at-link-requires
link_at-link-requires g t c =
    let held = c.requires.tree in
    let slot : c.args.at < length c.args.links.now = tree_slot _ c.args.low held.0 c.args.at held.1 in
    omega (arith, c.told-links)

pub label_in-right-requires : goal.label_in-right-requires
label_in-right-requires g t c κs within =
    let held = c.requires.tree in
    let p = parts (slice_get c.args.links.now) c.args.low held.0 c.args.at c.link_at-link.result held.1
    c.if-at-eq0.false c.link_at-link.ensures in
    let whole : c.args.high ≡ c.args.low + size held.0 = held.2 in (
      omega (arith, c.decreases),
      (within, (c.requires.entries, (c.requires.children, (p.right, p.right_tree, omega arith)))),
    )

pub returns : goal.returns
returns g t c = λ s tree whole.
    let p = parts (slice_get c.args.links.now) c.args.low s c.args.at c.link_at-link.result tree
    c.if-at-eq0.false c.link_at-link.ensures in
    let left = c.label_in-left.ensures p.left p.left_tree (omega arith) in
    let right = c.label_in-right.ensures p.right p.right_tree (omega (arith, whole)) in
    c.tree_node.ensures.label
    ∙ (λ k. g.H.Hasher.dig (entry_text (left k) c.entry_of.result (right k)))
    ∙ node-label g.H.Hasher.dig c.args.entries.now (labels_of c.args.children.now) _ c.args.low s c.args.at
    c.link_at-link.result p c.entry_of.result c.entry_of.ensures
