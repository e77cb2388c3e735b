-- How high a tree in pages is.
use Rattle.std.proofs.Common.{◌≡◌, ℕ, suc, zero, ◌+◌, ◌*◌, ◌≤◌, List, [], ◌∷◌, refl, sym, subst, arith, inl, inr}
use Rattle.std.proofs.Common.{slice_get}
use Rattle.std.specs.Prelude.{Option, Some, None, max, slice_index_or}
use Rattle.std.proofs.Math.Nat.{le-max_left, le-max_right, max-le}
use Rattle.tw_base.specs.declared.history.root.Root.{Root}
use Rattle.tw_base.specs.declared.history.thread.Entry.{Entry}
use Rattle.tw_base.specs.history.Tree.{Tree, branch, height}
use Rattle.tw_base.specs.history.Tree.Tree.{Empty as NoEntry, Branch}
use Rattle.tw_disk.specs.Image.{Image}
use Rattle.tw_rbnode.specs.declared.child.Child.{Child}
use Rattle.tw_rbnode.specs.Shape.{Shape, Empty, Node, depth, size}
use Rattle.tw_rbnode.specs.Trees.{page_tree, tree_at}
use Rattle.tw_rbnode.proofs.RedBlack.{depth_at_most}
use Rattle.tw_rbtree.specs.Standing.{AreTrees, IsRootTree, IsTreeBelow, IsTreePage, StandsForTree, any_page}

height-empty : height NoEntry ≡ 0
unfolding height
height-empty = refl

height-branch : (l : Tree) (e : Entry) (r : Tree) → height (Branch l e r) ≡ suc (max (height l) (height r))
unfolding height
height-branch l e r = refl

-- of a page's tree, over children's trees that are no higher than this
module _ (es : List Entry) (us : List Tree) (n : ℕ) (low : (place : ℕ) → height (slice_index_or us place NoEntry)
    ≤ n) where
  shape-height : (base : ℕ) (s : Shape) → height (tree_at es us base s) ≤ depth s + n
  unfolding tree_at
  shape-height base Empty = omega (arith, low base)
  shape-height base (Node red l r) = by (slice_get es (base + size l)) (shape-height base l)
      (shape-height (base + size l + 1) r)
    where
      by : (o : Option Entry) → height (tree_at es us base l) ≤ depth l + n
          → height (tree_at es us (base + size l + 1) r) ≤ depth r + n
          → height (branch o (tree_at es us base l) (tree_at es us (base + size l + 1) r)) ≤ suc
          (max (depth l) (depth r)) + n
      by None a b = omega (arith, height-empty)
      by (Some e) a b =
          let left : height (tree_at es us base l) ≤ max (depth l) (depth r) + n =
          omega (arith, a, le-max_left (depth l) (depth r)) in
          let right : height (tree_at es us (base + size l + 1) r) ≤ max (depth l) (depth r) + n =
          omega (arith, b, le-max_right (depth l) (depth r)) in
          omega (arith, max-le left right, height-branch (tree_at es us base l) e (tree_at es us (base + size l + 1) r))

all-low : (R : Child → Tree → Type 0) (n : ℕ) → ((c : Child) (t : Tree) → R c t → height t ≤ n)
    → (cs : List Child) (ts : List Tree) → AreTrees R cs ts → (place : ℕ) → height (slice_index_or ts place NoEntry) ≤ n
all-low R n each [] [] are place = omega (arith, height-empty)
all-low R n each [] (t ∷ ts) are place = absurd are
all-low R n each (c ∷ cs) [] are place = absurd are
all-low R n each (c ∷ cs) (t ∷ ts) are zero = each c t are.0
all-low R n each (c ∷ cs) (t ∷ ts) are (suc place) = all-low R n each cs ts are.1 place

module _ (dig : List ℕ → List ℕ) (ps : Image) where
  page-height : (R : Child → Tree → Type 0) (n : ℕ) → ((c : Child) (t : Tree) → R c t → height t ≤ n)
      → (level least page : ℕ) (t : Tree) → IsTreePage dig any_page ps R level least page t → height t ≤ 8 + n
  page-height R n each level least page t is =
      let node = is.at.may_stand.node in
      let deep = depth_at_most is.node.shape node.lawful (omega (arith, node.sized, node.most)) in
      let high : height (page_tree is.node is.trees) ≤ depth is.node.shape + n = shape-height is.node.entries is.trees n
      (all-low R n each is.node.children is.trees is.are_trees) 0 is.node.shape in
      subst (λ (x : Tree). height x ≤ 8 + n) (sym is.tree_is) (omega (arith, high, deep))

  below-height : (level : ℕ) (c : Child) (t : Tree) → IsTreeBelow dig any_page ps level c t → height t ≤ 8 * level
  unfolding IsTreeBelow
  below-height zero c t is = subst (λ (x : Tree). height x ≤ 8 * 0) (sym is) (omega (arith, height-empty))
  below-height (suc level) c t is =
      omega (
        arith,
        page-height (IsTreeBelow dig any_page ps level) (8 * level) (below-height level) level 12 c.page t is.1,
      )

  pub stands-height : (root : Root) (t : Tree) → StandsForTree dig ps root t → height t ≤ 99
  stands-height root t stands = by stands.tree
    where
      by : IsRootTree dig any_page ps root.page t → height t ≤ 99
      by (inl none) = subst (λ (x : Tree). height x ≤ 99) (sym none.1) (omega (arith, height-empty))
      by (inr (level, is)) =
          omega (
            arith,
            page-height (IsTreeBelow dig any_page ps level) (8 * level) (below-height level) level 1 root.page t is,
            is.level_is,
            is.at.may_stand.node.level,
          )
