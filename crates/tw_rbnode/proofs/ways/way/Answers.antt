use Rattle.std.proofs.Common.{◌≡◌, ◌≤◌, length, arith}
use Rattle.tw_rbnode.specs.Page.{IsNode, TreePage}
use Rattle.tw_rbnode.specs.Shape.{depth, size}
use Rattle.tw_rbnode.proofs.RedBlack.{depth_at_most}
use Rattle.tw_rbnode.proofs.ways.way.Goals as goal

-- no way down a page's tree has more than 8 nodes
few : (p : TreePage) → IsNode p → depth p.shape ≤ 8
few p node =
    let sized : size p.shape ≡ length p.entries = node.sized in
    let most : length p.entries ≤ 24 = node.most in
    depth_at_most p.shape node.lawful (omega arith)

pub way_in-requires-clause-tree : goal.way_in-requires-clause-tree
way_in-requires-clause-tree g c =
    let node = c.node.invariant in
    (_, node.0, omega (arith, c.len.ensures.value, node.1.sized), omega (arith, few _ node.1))

pub returns-clause-most : goal.returns-clause-most
returns-clause-most g c =
    let node = c.node.invariant in
    let bound = c.way_in.ensures.nodes _ node.0 (omega (arith, c.len.ensures.value, node.1.sized)) in
    omega (arith, bound.1, few _ node.1)
