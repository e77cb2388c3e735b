-- The children of a page, by its level.
use Rattle.std.specs.Prelude.{◌≡◌, ℕ, suc, zero, ◌<◌, List}
use Rattle.tw_base.specs.kinds.Lists.{Each}
use Rattle.tw_base.specs.kinds.Texts.{empty_tree_text}
use Rattle.tw_rbnode.specs.declared.child.Child.{Child}
use Rattle.tw_rbnode.specs.declared.node.Added.{Added}
use Rattle.tw_rbnode.specs.declared.node.Added.TheVariants.{One, Two}
use Rattle.tw_rbnode.specs.Page.{TreePage}

module _ (dig : List ℕ → List ℕ) where
  -- at level 0 a child is the empty tree, with page 0; at every other level it is a page, which is not 0
  abbrev pub IsChildAt : (level : ℕ) → Child → Type 0
  IsChildAt zero c = (c.page ≡ 0) × (c.label ≡ dig empty_tree_text)
  IsChildAt (suc below) c = 0 < c.page

  abbrev pub HasChildren : TreePage → Type 0
  HasChildren p = Each (IsChildAt p.level) p.children

  abbrev pub AddedHasChildren : Added → Type 0
  AddedHasChildren (One one) = HasChildren one
  AddedHasChildren (Two first middle second) = HasChildren first × HasChildren second
