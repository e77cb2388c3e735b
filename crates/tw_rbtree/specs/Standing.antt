-- When pages stand for a tree.
use Rattle.std.specs.Prelude.{◌≡◌, ◌⊎◌, ℕ, suc, zero, ◌≤◌, List, [], ◌∷◌, length, ◌<◌}
use Rattle.tw_base.specs.declared.history.root.Root.{Root}
use Rattle.tw_base.specs.history.Auth.{tree_label}
use Rattle.tw_base.specs.history.Tree.{Tree, IsRising, entries}
use Rattle.tw_base.specs.history.Tree.Tree.{Empty}
use Rattle.tw_disk.specs.Image.{Image}
use Rattle.tw_rbnode.specs.declared.child.Child.{Child}
use Rattle.tw_rbnode.specs.Page.{TreePage}
use Rattle.tw_rbnode.specs.Trees.{page_tree}
use Rattle.tw_rbtree.specs.declared.limits.TheConstants.{LEAST_KEYS}
use Rattle.tw_rbtree.specs.Reading.{IsPageAt}

-- as many trees as children, each of which is that of its child
abbrev pub AreTrees : (Child → Tree → Type 0) → List Child → List Tree → Type 0
AreTrees Is [] [] = Unit {0}
AreTrees Is [] (t ∷ ts) = ⊥
AreTrees Is (c ∷ cs) [] = ⊥
AreTrees Is (c ∷ cs) (t ∷ ts) = Is c t × AreTrees Is cs ts

-- what holds of a page and the tree that it is
abbrev pub OfPage : Type 1
OfPage = (page : ℕ) → Tree → Type 0

abbrev pub any_page : OfPage
any_page page t = Unit {0}

-- the trees that pages below a number are to be
pub record Named : Type 0 where
  pub below : ℕ
  pub tree : ℕ → Tree

abbrev pub HasNamed : Named → OfPage
HasNamed named page t = page < named.below → named.tree page ≡ t

module _ (dig : List ℕ → List ℕ) (Has : OfPage) (pages : Image) where
  -- the page of this number has the level and at least so many keys, and is this tree over those of its children
  pub record IsTreePage (IsBelow : Child → Tree → Type 0) (level least page : ℕ) (t : Tree) : Type 0 where
    pub node : TreePage
    pub at : IsPageAt dig pages page node
    pub level_is : node.level ≡ level
    pub least_keys : least ≤ length node.entries
    pub trees : List Tree
    pub are_trees : AreTrees IsBelow node.children trees
    pub tree_is : t ≡ page_tree node trees
    pub has : Has page t

  -- the child of a page of this level is this tree: the empty one below level 0, else that of a page of the level one lower
  unfoldable pub IsTreeBelow : (level : ℕ) → Child → Tree → Type 0
  IsTreeBelow zero c t = t ≡ Empty
  IsTreeBelow (suc level) c t = (c.label ≡ tree_label dig t) × IsTreePage (IsTreeBelow level) level LEAST_KEYS c.page t

  -- the page of a root is this tree; page 0 is the empty one
  abbrev pub IsRootTree : (page : ℕ) → Tree → Type 0
  IsRootTree page t = ((page ≡ 0) × (t ≡ Empty)) ⊎ ((level : ℕ) × IsTreePage (IsTreeBelow level) level 1 page t)

  -- the pages stand for this tree under the root: its keys rise, its label is the root's, and the root's page is the tree
  pub record StandsWith (root : Root) (t : Tree) : Type 0 where
    pub rising : IsRising (entries t)
    pub label : root.label ≡ tree_label dig t
    pub tree : IsRootTree root.page t

abbrev pub StandsForTree : (dig : List ℕ → List ℕ) → Image → Root → Tree → Type 0
StandsForTree dig pages root t = StandsWith dig any_page pages root t
