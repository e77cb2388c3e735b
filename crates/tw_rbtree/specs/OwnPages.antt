-- The pages of a tree, as they are found in pages, those that its listed nodes name, and those that have these nodes.
use Rattle.std.specs.Prelude.{◌≡◌, ◌⊎◌, ℕ, suc, zero, ◌≤◌, List, length}
use Rattle.tw_base.specs.declared.history.root.Root.{Root}
use Rattle.tw_base.specs.declared.history.thread.Entry.{Entry}
use Rattle.tw_base.specs.kinds.Lists.{In}
use Rattle.tw_disk.specs.Found.Found.{Is}
use Rattle.tw_disk.specs.Image.{Image}
use Rattle.tw_rbnode.specs.Page.{TreePage}
use Rattle.tw_rbtree.specs.declared.new_node.NewNode.{NewNode}
use Rattle.tw_rbtree.specs.declared.new_node.Side.{Side}
use Rattle.tw_rbtree.specs.declared.new_node.Side.TheVariants.{Empty as NoTree, New, Old}
use Rattle.tw_rbtree.specs.Reading.{node_in}
use Rattle.tw_rbtree.specs.Ways.{child_page}

module _ (dig : List ℕ → List ℕ) (pages : Image) where
  -- a page of the tree of a page of this level: that page itself, or one of the tree of the page at a place of it
  unfoldable pub IsPageIn : (level from page : ℕ) → Type 0
  IsPageIn zero from page = page ≡ from
  IsPageIn (suc level) from page =
      (page ≡ from) ⊎ ((p : TreePage) × (place : ℕ) × (node_in dig pages from ≡ Is p) × (place ≤ length p.entries) × IsPageIn level (child_page p place) page)

  -- a page of the tree under the root
  abbrev pub IsPageUnder : Root → (page : ℕ) → Type 0
  IsPageUnder root page = (p : TreePage) × (node_in dig pages root.page ≡ Is p) × IsPageIn p.level root.page page

  -- an entry that stands in a page of the tree under the root, whose number is at least this one
  abbrev pub IsEntryOfNew : Root → (since : ℕ) → Entry → Type 0
  IsEntryOfNew root since e = (page : ℕ) × (p : TreePage) × (node_in dig pages page ≡ Is p) × IsPageUnder root page × (since ≤ page) × In e p.entries

module _ (IsOwn : ℕ → Type 0) where
  -- an older page at a side is one of these, and the page that a node's mark names too
  abbrev pub IsOwnSide : Side → Type 0
  IsOwnSide NoTree = Unit {0}
  IsOwnSide (New number) = Unit {0}
  IsOwnSide (Old page) = IsOwn page

  abbrev pub IsOwnMark : (page : ℕ) → Type 0
  IsOwnMark page = (page ≡ 0) ⊎ IsOwn page

  abbrev pub NamesOwn : NewNode → Type 0
  NamesOwn n = IsOwnSide n.left × IsOwnSide n.right × IsOwnMark n.page
