-- What a part of a tree has become by an entry more: one child in its place, or two with an entry between them.
use Rattle.std.specs.Prelude.{◌≡◌, ◌≢◌, ℕ, ◌+◌, ◌<◌, ◌≤◌, ◌==◌, ◌&&◌, List, [], ◌∷◌, ◌++◌, length, map, take, drop, Bool, true, false, Option, Some, None, Result, Ok, Err}
use Rattle.tw_base.specs.declared.history.thread.Entry.{Entry}
use Rattle.tw_base.specs.declared.history.thread.Key.{Key}
use Rattle.tw_base.specs.declared.history.tree_proof.Ask.TheVariants.{Absent}
use Rattle.tw_base.specs.history.Auth.{tree_label}
use Rattle.tw_base.specs.history.Entries.{key_of}
use Rattle.tw_base.specs.history.Limits.{IsEntryInRange}
use Rattle.tw_base.specs.history.Tree.{Tree, entries}
use Rattle.tw_base.specs.kinds.Texts.{empty_tree_text}
use Rattle.tw_disk.specs.Found.{Found, ◌>>=◌}
use Rattle.tw_disk.specs.Found.Found.{Is}
use Rattle.tw_disk.specs.Image.{Image}
use Rattle.tw_rbnode.specs.declared.child.Child.{Child}
use Rattle.tw_rbnode.specs.declared.limits.TheConstants.{MOST_KEYS}
use Rattle.tw_rbnode.specs.declared.node.Added.{Added}
use Rattle.tw_rbnode.specs.declared.node.Added.TheVariants.{One as OnePage, Two as TwoPages}
use Rattle.tw_rbnode.specs.Answers.{IsAdded}
use Rattle.tw_rbnode.specs.Children.{IsChildAt}
use Rattle.tw_rbnode.specs.Page.{IsBetween, IsNode, TreePage}
use Rattle.tw_rbnode.specs.Trees.{page_label, woven}
use Rattle.tw_rbtree.specs.declared.fault.TreeFault.{TreeFault}
use Rattle.tw_rbtree.specs.declared.fault.TreeFault.TheVariants.{Present}
use Rattle.tw_rbtree.specs.declared.inserting.Grown.{Grown}
use Rattle.tw_rbtree.specs.declared.inserting.Grown.TheVariants.{One, Two}
use Rattle.tw_rbtree.specs.declared.limits.TheConstants.{LEAST_KEYS}
use Rattle.tw_rbtree.specs.Reading.{is_above, is_below}
use Rattle.tw_rbtree.specs.Standing.{AreTrees, IsTreeBelow, IsTreePage, OfPage}
use Rattle.tw_rbtree.specs.Ways.{Stop, end_of_way, nowhere, way_from}

-- the page has no room for one key more
abbrev pub is_full : TreePage → Bool
is_full p = length p.entries == MOST_KEYS

-- all pages of a way are full
abbrev pub all_full : List Stop → Bool
all_full [] = true
all_full (s ∷ []) = is_full s.page
all_full (s ∷ r ∷ stops) = all_full (r ∷ stops) && is_full s.page

-- the key is there, or a place for it below pages of which all are full, or not all
abbrev pub grows_if : (met : Option Entry) → (full : Bool) → Result Bool TreeFault
grows_if (Some e) full = Err Present
grows_if None full = Ok full

-- the same of a way
abbrev pub grows_of : List Stop → Result Bool TreeFault
grows_of stops = grows_if (end_of_way nowhere stops).met (all_full stops)

-- and of a way below a page
abbrev pub grows_above : TreePage → Result Bool TreeFault → Result Bool TreeFault
grows_above p (Ok all) = Ok (all && is_full p)
grows_above p (Err fault) = Err fault

-- the ways for a key, from a page of this level down
unfoldable pub grows_from : (dig : List ℕ → List ℕ) → Image → Key → (level : ℕ) → (low high : Option Entry) → TreePage → Found (Result Bool TreeFault)
grows_from dig pages key level low high p = way_from dig pages (Absent key) level low high p >>= (λ stops. Is (grows_of stops))

-- a part of a tree with an entry more is two children where all pages on its way were full
abbrev pub is_two : Grown → Bool
is_two (One c) = false
is_two (Two left middle right) = true

-- the entry alone, between two empty trees
abbrev pub leaf_of : (dig : List ℕ → List ℕ) → Entry → Grown
leaf_of dig e = Two (record { page = 0; label = dig empty_tree_text }) e (record { page = 0; label = dig empty_tree_text })

-- children are pages, and an entry between two is a possible one between these two
abbrev pub IsGrownIn : (low high : Option Entry) → Grown → Type 0
IsGrownIn low high (One c) = 0 < c.page
IsGrownIn low high (Two left middle right) =
    (0 < left.page) × (0 < right.page) × IsEntryInRange middle × (is_above low middle ≡ true) × (is_below high middle ≡ true)

-- an entry between two is a possible one between these two
abbrev pub LiesIn : (low high : Option Entry) → Grown → Type 0
LiesIn low high (One c) = Unit {0}
LiesIn low high (Two left middle right) = IsEntryInRange middle × (is_above low middle ≡ true) × (is_below high middle ≡ true)

-- it may stand at the place of a page
abbrev pub MayGoInto : (dig : List ℕ → List ℕ) → TreePage → (place : ℕ) → Grown → Type 0
MayGoInto dig p place (One c) = (0 < c.page) × (p.level ≢ 0) × (place ≤ length p.entries)
MayGoInto dig p place (Two left middle right) =
    IsEntryInRange middle × IsBetween p.entries place (key_of middle) × IsChildAt dig p.level left × IsChildAt dig p.level right

-- the page with it at the place
abbrev pub IsWith : TreePage → (place : ℕ) → Grown → Added → Type 0
IsWith p place (One c) (OnePage new) =
    (new.level ≡ p.level) × (new.entries ≡ p.entries) × (new.children ≡ take place p.children ++ c ∷ [] ++ drop (place + 1) p.children)
IsWith p place (One c) (TwoPages first middle second) = ⊥
IsWith p place (Two left middle right) added = IsAdded p place middle left right added

-- the page is staged as this child, under this number
pub record IsStaged (dig : List ℕ → List ℕ) (page : ℕ) (p : TreePage) (c : Child) : Type 0 where
  pub page_is : c.page ≡ page
  pub label_is : c.label ≡ page_label dig p

abbrev pub AddedAreNodes : Added → Type 0
AddedAreNodes (OnePage p) = IsNode p
AddedAreNodes (TwoPages first middle second) = IsNode first × IsNode second

-- what is added is staged so, from this number on
abbrev pub IsStagedAs : (dig : List ℕ → List ℕ) → (page : ℕ) → Added → Grown → Type 0
IsStagedAs dig page (OnePage p) (One c) = IsStaged dig page p c
IsStagedAs dig page (TwoPages first middle second) (Two left between right) = IsStaged dig page first left × (middle ≡ between) × IsStaged dig (page + 1) second right
IsStagedAs dig page _ _ = ⊥

-- a child that is alone is the last of so many pages
abbrev pub IsLast : (used : ℕ) → Grown → Type 0
IsLast used (One c) = used ≡ c.page + 1
IsLast used (Two left middle right) = Unit {0}

-- ---- what it is, where the pages stand for trees

-- it lists these entries, over children that are trees
abbrev pub SidesList : (R : Child → Tree → Type 0) → List Entry → Grown → Type 0
SidesList R es (One c) = (t : Tree) × R c t × (entries t ≡ es)
SidesList R es (Two left middle right) = (l : Tree) × (r : Tree) × R left l × R right r × (entries l ++ middle ∷ entries r ≡ es)

module _ (dig : List ℕ → List ℕ) (Has : OfPage) (pages : Image) where
  -- a child of a page above this level is this tree, whose page has at least so many keys
  abbrev pub IsChildTree : (level least : ℕ) → Child → Tree → Type 0
  IsChildTree level least c t = (c.label ≡ tree_label dig t) × IsTreePage dig Has pages (IsTreeBelow dig Has pages level) level least c.page t

  -- it lists these entries
  abbrev pub GrownLists : (level least : ℕ) → List Entry → Grown → Type 0
  GrownLists level least es (One c) = (t : Tree) × IsChildTree level least c t × (entries t ≡ es)
  GrownLists level least es (Two left middle right) =
      (l : Tree) × (r : Tree) × IsChildTree level LEAST_KEYS left l × IsChildTree level LEAST_KEYS right r × (entries l ++ middle ∷ entries r ≡ es)

  -- a page over children that are trees
  pub record IsOverLevel (level least : ℕ) (p : TreePage) (listed : List Entry) : Type 0 where
    pub level_is : p.level ≡ level
    pub least_keys : least ≤ length p.entries
    pub trees : List Tree
    pub are_trees : AreTrees (IsTreeBelow dig Has pages level) p.children trees
    pub lists : woven (map entries trees) p.entries ≡ listed

  abbrev pub AddedLists : (level least : ℕ) → List Entry → Added → Type 0
  AddedLists level least es (OnePage p) = IsOverLevel level least p es
  AddedLists level least es (TwoPages first middle second) =
      (fs : List Entry) × (ss : List Entry) × IsOverLevel level LEAST_KEYS first fs × IsOverLevel level LEAST_KEYS second ss × (fs ++ middle ∷ ss ≡ es)
