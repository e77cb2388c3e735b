-- The pages that an entry more takes, whatever the pages before keep: those of the way to its place, each with what stands below it now.
use Rattle.std.specs.Prelude.{◌≡◌, ℕ, ◌+◌, List, [], ◌∷◌, ◌++◌, length}
use Rattle.tw_base.specs.declared.history.root.Root.{Root}
use Rattle.tw_base.specs.declared.history.thread.Entry.{Entry}
use Rattle.tw_base.specs.declared.history.tree_proof.Ask.TheVariants.{Absent}
use Rattle.tw_base.specs.format.PageBytes.{IsPageOf}
use Rattle.tw_base.specs.history.Entries.{key_of}
use Rattle.tw_disk.specs.declared.limits.TheConstants.{FIRST_PAGE}
use Rattle.tw_disk.specs.Found.Found.{Is}
use Rattle.tw_disk.specs.Image.{Image}
use Rattle.tw_rbnode.specs.declared.node.Added.{Added}
use Rattle.tw_rbnode.specs.declared.node.Added.TheVariants.{One as OnePage, Two as TwoPages}
use Rattle.tw_rbnode.specs.declared.node.Found.TheVariants.{Between}
use Rattle.tw_rbnode.specs.NodeBytes.{fields_of, page_node_codec}
use Rattle.tw_rbnode.specs.Page.{IsNode, TreePage}
use Rattle.tw_rbnode.specs.Trees.{page_label}
use Rattle.tw_rbtree.specs.declared.inserting.Grown.{Grown}
use Rattle.tw_rbtree.specs.declared.inserting.Grown.TheVariants.{One, Two}
use Rattle.tw_rbtree.specs.Growing.{IsStagedAs, IsWith, leaf_of}
use Rattle.tw_rbtree.specs.Ways.{Stop, way}

-- the bytes are those of this tree page
pub record IsBytesOf (bytes : List ℕ) (p : TreePage) : Type 0 where
  pub node : IsNode p
  pub spelled : IsPageOf page_node_codec bytes (fields_of p)

-- what is added is these pages: the one, or the two from left to right
abbrev pub ArePages : Added → Image → Type 0
ArePages (OnePage p) pages = (bytes : List ℕ) × IsBytesOf bytes p × (pages ≡ bytes ∷ [])
ArePages (TwoPages first middle second) pages = (left : List ℕ) × (right : List ℕ) × IsBytesOf left first × IsBytesOf right second × (pages ≡ left ∷ right ∷ [])

-- how many levels the pages of a tree have, by the way from its root
abbrev pub levels_on : List Stop → ℕ
levels_on [] = 0
levels_on (s ∷ stops) = s.page.level + 1

module _ (dig : List ℕ → List ℕ) where
  -- with what stands at its place now, the page is one page or two, which are these, staged from this number on
  pub record IsRegrown (number : ℕ) (p : TreePage) (place : ℕ) (below : Grown) (own : Image) (grown : Grown) : Type 0 where
    pub added : Added
    pub with_it : IsWith p place below added
    pub staged : IsStagedAs dig number added grown
    pub are : ArePages added own

  -- the same of each page of a way, at whose end the entry is put: the lowest page first
  abbrev pub AreRegrown : (number : ℕ) → Entry → List Stop → Image → Grown → Type 0
  AreRegrown number e [] pages grown = (pages ≡ []) × (grown ≡ leaf_of dig e)
  AreRegrown number e (s ∷ stops) pages grown =
      (lower : Image) × (below : Grown) × AreRegrown number e stops lower below
      × (place : ℕ) × (own : Image) × (s.sought.at ≡ Between place) × IsRegrown (number + length lower) s.page place below own grown × (pages ≡ lower ++ own)

  -- the new root's page: the one that the way has become, or one more over the two, with this number and the entry between them alone
  abbrev pub IsTop : (number levels : ℕ) → Grown → Image → Root → Type 0
  IsTop number levels (One c) pages new = (pages ≡ []) × (new ≡ record { page = c.page; label = c.label })
  IsTop number levels (Two left middle right) pages new =
      (p : TreePage) × (bytes : List ℕ) × IsBytesOf bytes p × (pages ≡ bytes ∷ []) × (new ≡ record { page = number; label = page_label dig p })
      × (p.level ≡ levels) × (p.entries ≡ middle ∷ []) × (p.children ≡ left ∷ right ∷ [])

  -- The entry is put into the tree under the root by these pages, behind the others: those of the way to its place, as it is found, each
  -- with what stands below it now, and a new root's page above them where the way's first page is two now, or where there was no page.
  -- No other page is among them.
  pub record PutsIn (ps : Image) (root : Root) (e : Entry) (more : Image) (new : Root) : Type 0 where
    pub stops : List Stop
    pub found : way dig ps (Absent (key_of e)) root ≡ Is stops
    pub grown : Grown
    pub lower : Image
    pub regrown : AreRegrown (FIRST_PAGE + length ps) e stops lower grown
    pub top : Image
    pub is_top : IsTop (FIRST_PAGE + length ps + length lower) (levels_on stops) grown top new
    pub are : more ≡ lower ++ top
