use Rattle.std.proofs.Common.{◌∙◌, arith, sym}
use Rattle.tw_rbtree.proofs.Downs.{sought-in}
use Rattle.tw_rbtree.proofs.descending.descend.Goals as goal

pub returns-in_default-clause-down : goal.returns-in_default-clause-down
returns-in_default-clause-down g c = sought-in _ _ _ _ _ c.seek-here.ensures c.see_node.ensures

pub returns-then-level-eq0-clause-down : goal.returns-then-level-eq0-clause-down
returns-then-level-eq0-clause-down g c = (
  sought-in _ _ _ _ _ c.seek-here.ensures c.see_node.ensures,
  c.in-Between.is,
  sym c.level.ensures ∙ c.if-level-eq0.true,
)

pub returns-clause-down : goal.returns-clause-down
returns-clause-down g c =
    let child = c.in_ok-child.ensures in (
      sought-in _ _ _ _ _ c.seek-here.ensures c.see_node.ensures,
      c.in-Between.is,
      omega (arith, c.level-2.ensures, c.level.ensures, c.if-level-eq0.false, child.level),
      child.lie,
      child.kinds,
    )
