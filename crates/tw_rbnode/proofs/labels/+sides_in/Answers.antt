use Rattle.std.proofs.Common.{slice_get, ◌∙◌, arith}
use Rattle.tw_rbnode.specs.Trees.{labels_of}
use Rattle.tw_rbnode.proofs.Descents.{has_node, parts}
use Rattle.tw_rbnode.proofs.LabelLaws.{sides-here, sides-left, sides-right}
use Rattle.tw_rbnode.proofs.labels.+sides_in.Goals as goal

pub returns-then-slot-at : goal.returns-then-slot-at
returns-then-slot-at g t c = λ s tree whole.
    let p = parts (slice_get c.args.links.now) c.args.low s c.args.at c.link_at-link.result tree (has_node _ c.args.low
    s c.args.at tree (omega (arith, whole, c.requires.some, c.requires.most))) c.link_at-link.ensures in
    let left = c.label_in-left.ensures p.left p.left_tree (omega arith) in
    let right = c.label_in-right.ensures p.right p.right_tree (omega (arith, whole)) in
    (λ k. (left k, right k))
    ∙ sides-here g.H.Hasher.dig c.args.entries.now (labels_of c.args.children.now) _ c.args.low s c.args.at
    c.link_at-link.result p c.args.slot c.if-slot-at.true

pub returns-then-slot-at-2 : goal.returns-then-slot-at-2
returns-then-slot-at-2 g t c = λ s tree whole.
    let p = parts (slice_get c.args.links.now) c.args.low s c.args.at c.link_at-link.result tree (has_node _ c.args.low
    s c.args.at tree (omega (arith, whole, c.requires.some, c.requires.most))) c.link_at-link.ensures in
    c.sides_in.ensures p.left p.left_tree (omega arith)
    ∙ sides-left g.H.Hasher.dig c.args.entries.now (labels_of c.args.children.now) _ c.args.low s c.args.at
    c.link_at-link.result p c.args.slot c.if-slot-at-2.true

pub returns-else-slot-at-2 : goal.returns-else-slot-at-2
returns-else-slot-at-2 g t c = λ s tree whole.
    let p = parts (slice_get c.args.links.now) c.args.low s c.args.at c.link_at-link.result tree (has_node _ c.args.low
    s c.args.at tree (omega (arith, whole, c.requires.some, c.requires.most))) c.link_at-link.ensures in
    c.sides_in-else-slot-at-2.ensures p.right p.right_tree (omega (arith, whole))
    ∙ sides-right g.H.Hasher.dig c.args.entries.now (labels_of c.args.children.now) _ c.args.low s c.args.at
    c.link_at-link.result p c.args.slot (omega (arith, c.if-slot-at-2.false, c.if-slot-at.false))
