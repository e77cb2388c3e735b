use Rattle.std.proofs.Common.{◌≡◌, Err, length, ap, arith, rules}
use Rattle.std.proofs.lemmas.Grind.{common_steps}
use Rattle.tw_rbnode.specs.Page.{TreePage}
use Rattle.tw_rbtree.specs.declared.fault.TreeFault.{TreeFault}
use Rattle.tw_rbtree.proofs.ListLaws.{stopped-left}
use Rattle.tw_rbtree.proofs.listing.+list_part.Goals as goal

pub list_part-requires-2 : goal.list_part-requires-2
list_part-requires-2 g t c κs within =
    (omega (arith, c.decreases, c.take_apart.ensures.order), (within.0, (within.1, c.take_apart.ensures.before)))

pub list_part-requires-3 : goal.list_part-requires-3
list_part-requires-3 g t c κs within =
    (omega (arith, c.decreases, c.take_apart.ensures.order), (within.0, (within.1, c.take_apart.ensures.behind)))

pub list_part-requires : goal.list_part-requires
list_part-requires g t c κs within =
    let node : TreePage = c.deref-below.result.now in
    let child : TreePage = c.in_ok-child.child.value in
    let is : node ≡ child = c.deref-below.ensures in
    let level : node.level ≡ child.level = ap (λ (p : TreePage). p.level) is in
    let size : length node.entries ≡ length child.entries = ap (λ (p : TreePage). length p.entries) is in (
      omega (
        arith,
        c.decreases,
        c.in_ok-child.ensures.level,
        c.in_ok-child.ensures.node.most,
        level,
        size,
        c.whole-tree.ensures.part.room,
        c.whole-tree.ensures.base,
      ),
      (within.0, (within.1, c.whole-tree.ensures.part)),
    )

pub returns-in_err-left : goal.returns-in_err-left
returns-in_err-left g t c = record {
  reads = record {
    answer = λ ps told.
        let fault : TreeFault = c.in_err-left.field-0.0 in
        let same : c.from_residual-in_err-left.result ≡ Err fault = search rules in
        stopped-left _ fault _ _ _ _ (c.take_apart.ensures.lists g.H.Hasher.dig ps c.args.since c.args.page
        c.args.low.now c.args.high.now c.args.nodes.now)
        (c.in_err-left.ensures.reads.answer ps told) same;
    own = search rules;
    kept = search rules;
    faults = search rules;
  };
}

pub returns : goal.returns
returns g t c = grind (arith, common_steps)
