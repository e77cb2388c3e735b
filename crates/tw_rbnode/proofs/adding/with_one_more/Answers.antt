use Rattle.std.proofs.Common.{◌≡◌, ◌<◌, length, sym, ap, ◌∙◌, subst, arith, slice_get}
use Rattle.tw_base.specs.history.Entries.{key_of}
use Rattle.tw_rbnode.specs.Answers.{more_children, more_entries}
use Rattle.tw_rbnode.specs.Page.{TreePage, IsBetween, shape_of}
use Rattle.tw_rbnode.specs.Shape.{size}
use Rattle.tw_rbnode.proofs.Pages.{one_more}
use Rattle.tw_rbnode.proofs.adding.with_one_more.Goals as goal

pub invariant_of-result : goal.invariant_of-result
invariant_of-result c =
    let n = c.node.inside in
    let entries : n.entries.items ≡ c.args.node.now.entries = ap (λ (p : TreePage). p.entries) c.node.view_is in
    let stands : IsBetween n.entries.items c.args.place (key_of c.args.entry) =
    subst (λ es. IsBetween es c.args.place (key_of c.args.entry)) (sym entries) c.requires.between in
    let count : c.len-count.result ≡ length n.entries.items = c.len-count.ensures.value in
    let few : length n.entries.items < 24 = omega (arith, ap length entries, c.requires.room) in
    let sized : size (shape_of 25 (slice_get n.links) n.top) ≡ c.len-count.result = c.node.invariant.1.sized
    ∙ sym count in
    one_more _ _ n.top _ n.level n.entries.items _ n.children.items _ c.args.place c.args.entry c.args.left c.args.right
    c.node.invariant.1 c.requires.range stands few
    (c.with_node-top.ensures (shape_of 25 (slice_get n.links) n.top) c.node.invariant.0 sized)
    (c.more_entries-entries.ensures ∙ ap (λ xs. more_entries xs c.args.place c.args.entry) c.as_slice.ensures.value)
    (c.more_children-children.ensures ∙ ap (λ xs. more_children xs c.args.place c.args.left c.args.right)
    c.as_slice-2.ensures.value)
