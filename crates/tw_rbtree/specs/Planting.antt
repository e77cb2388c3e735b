-- The trees of listed nodes.
use Rattle.std.specs.Prelude.{◌≡◌, ℕ, ◌-◌, ◌<◌, ◌≤◌, ◌⊎◌, List, [], ◌∷◌, ◌++◌, slice_get, Some}
use Rattle.tw_base.specs.history.Tree.{Tree, IsRising, entries}
use Rattle.tw_base.specs.history.Tree.Tree.{Empty, Branch}
use Rattle.tw_base.specs.kinds.Lists.{In}
use Rattle.tw_disk.specs.declared.limits.TheConstants.{FIRST_PAGE}
use Rattle.tw_disk.specs.Image.{Image}
use Rattle.tw_rbtree.specs.declared.new_node.NewNode.{NewNode}
use Rattle.tw_rbtree.specs.declared.new_node.Side.{Side}
use Rattle.tw_rbtree.specs.declared.new_node.Side.TheVariants.{Empty as NoTree, New, Old}
use Rattle.tw_rbtree.specs.Standing.{IsTreeBelow, IsTreePage, OfPage}

-- `Has` is what holds of each page and its tree, and `since` the page from which on nodes are listed
module _ (dig : List ℕ → List ℕ) (Has : OfPage) (pages : Image) (since : ℕ) where
  -- the page of this number is this tree
  abbrev pub IsTreeOf : (page : ℕ) → Tree → Type 0
  IsTreeOf page t = (level : ℕ) × (least : ℕ) × IsTreePage dig Has pages (IsTreeBelow dig Has pages level) level least page t

  -- the tree of a side: the empty one, that of a node among these, counted from 1, or that of an older page
  abbrev pub IsSideTree : (trees : List Tree) → Side → Tree → Type 0
  IsSideTree trees NoTree t = t ≡ Empty
  IsSideTree trees (New number) t = (0 < number) × (slice_get trees (number - 1) ≡ Some t)
  IsSideTree trees (Old page) t = (FIRST_PAGE ≤ page) × (page < since) × IsTreeOf page t

  -- the mark of a node is 0, or the number of the page whose tree it is, which isn't older
  abbrev pub IsMarkOf : (page : ℕ) → Tree → Type 0
  IsMarkOf page t = (page ≡ 0) ⊎ ((since ≤ page) × IsTreeOf page t)

  -- each node's tree is its entry over the trees of its sides, which stand before it; it rises, and the node's mark is its page
  abbrev pub AreNodeTrees : (before : List Tree) → List NewNode → List Tree → Type 0
  AreNodeTrees before [] [] = Unit {0}
  AreNodeTrees before [] (t ∷ ts) = ⊥
  AreNodeTrees before (n ∷ ns) [] = ⊥
  AreNodeTrees before (n ∷ ns) (t ∷ ts) =
      ((l : Tree) × (r : Tree) × IsSideTree before n.left l × IsSideTree before n.right r × (t ≡ Branch l n.entry r) × IsMarkOf n.page t × IsRising (entries t))
      × AreNodeTrees (before ++ t ∷ []) ns ts

-- a page from this one on is the mark of a node among these
abbrev pub IsMarked : (since : ℕ) → List NewNode → OfPage
IsMarked since nodes page t = since ≤ page → (n : NewNode) × In n nodes × (n.page ≡ page)
