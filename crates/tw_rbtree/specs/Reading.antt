-- Which tree pages stand in a list of pages, and which of them fit a way down.
use Rattle.std.specs.Prelude.{ℕ, ◌+◌, ◌-◌, ◌<◌, ◌≤◌, ◌==◌, ◌&&◌, List, [], ◌∷◌, length, nat_le, Bool, true, Option, Some, None, if◌then◌else◌}
use Rattle.std.specs.Ordering.{is_lt}
use Rattle.tw_base.specs.declared.history.thread.Entry.{Entry}
use Rattle.tw_base.specs.history.Entries.{key_cmp, key_of}
use Rattle.tw_disk.specs.declared.limits.TheConstants.{FIRST_PAGE}
use Rattle.tw_disk.specs.Found.{Found, bytes_in, spelled, when, ◌>>=◌}
use Rattle.tw_disk.specs.Found.Found.{Is}
use Rattle.tw_disk.specs.Image.{Image, page_at}
use Rattle.tw_base.specs.declared.kinds.limits.TheConstants.{PAGE_SIZE}
use Rattle.tw_base.specs.format.PageBytes.{IsPageOf}
use Rattle.tw_rbnode.specs.NodeBytes.{MayStand, fields_of, page_node_codec}
use Rattle.tw_rbnode.specs.Page.{TreePage}
use Rattle.tw_rbnode.specs.Tests.{may_stand, page_of}
use Rattle.tw_rbtree.specs.declared.limits.TheConstants.{LEAST_KEYS}

-- the page of this number is there, and its bytes are those of a tree page that may stand under the number
pub record IsPageAt (dig : List ℕ → List ℕ) (pages : Image) (page : ℕ) (p : TreePage) : Type 0 where
  pub low : FIRST_PAGE ≤ page
  pub below : page < FIRST_PAGE + length pages
  pub may_stand : MayStand dig page p
  pub bytes : IsPageOf page_node_codec (page_at pages (page - FIRST_PAGE)) (fields_of p)

-- the entry lies above this one; above none all do
abbrev pub is_above : Option Entry → Entry → Bool
is_above None e = true
is_above (Some low) e = is_lt (key_cmp (key_of low) (key_of e))

abbrev pub is_below : Option Entry → Entry → Bool
is_below None e = true
is_below (Some high) e = is_lt (key_cmp (key_of e) (key_of high))

-- each key lies between those of these two entries
abbrev pub lie_between : (low high : Option Entry) → List Entry → Bool
lie_between low high [] = true
lie_between low high (e ∷ es) = (is_above low e && is_below high e) && lie_between low high es

-- a page other than a root page fits the way to it: it has the wanted level, enough keys, and they lie between those on either side of the way
abbrev pub fits : (level : ℕ) → (low high : Option Entry) → TreePage → Bool
fits level low high p = (p.level == level && nat_le LEAST_KEYS (length p.entries)) && lie_between low high p.entries

-- the tree page whose fields these bytes spell, if it may stand under this number
unfoldable pub node_from : (dig : List ℕ → List ℕ) → (page : ℕ) → List ℕ → Found TreePage
node_from dig page bytes = spelled page PAGE_SIZE page_node_codec bytes >>= (λ f. when (may_stand dig page f) page (page_of f))

module _ (dig : List ℕ → List ℕ) (pages : Image) where
  -- the tree page of this number; any may be a root page
  unfoldable pub node_in : (page : ℕ) → Found TreePage
  node_in page = bytes_in pages page >>= node_from dig page

  -- how many levels the pages of a tree have under this root page; page 0 has none
  unfoldable pub levels_in : (page : ℕ) → Found ℕ
  levels_in page = if page == 0 then Is 0 else (node_in page >>= (λ p. Is (p.level + 1)))

  -- the same, if it fits the way to it
  unfoldable pub child_in : (level : ℕ) → (low high : Option Entry) → (page : ℕ) → Found TreePage
  child_in level low high page = node_in page >>= (λ p. when (fits level low high p) page p)
