use Rattle.std.proofs.Common.{◌≡◌, length, ap, ◌∙◌, arith, slice_get}
use Rattle.tw_rbnode.specs.Page.{TreePage, shape_of}
use Rattle.tw_rbnode.specs.Shape.{size}
use Rattle.tw_rbnode.specs.Slots.{below_at}
use Rattle.tw_rbnode.proofs.Descents.{below-reads}
use Rattle.tw_rbnode.proofs.node.below.Goals as goal

pub returns : goal.returns
returns c =
    let n = c.node.inside in
    let sized : size (shape_of 25 (slice_get n.links) n.top) ≡ length n.entries.items = c.node.invariant.1.sized in
    let entries : length n.entries.items ≡ length c.args.node.now.entries = ap (λ (p : TreePage). length p.entries)
    c.node.view_is in
    below-reads (slice_get n.links) c.args.slot 0 (shape_of 25 (slice_get n.links) n.top) c.link_at-link.result
    c.node.invariant.0.at c.requires.some (omega (arith, c.requires.most)) c.link_at-link.ensures
    ∙ ap (λ (p : TreePage). below_at c.args.slot 0 p.shape) c.node.view_is
