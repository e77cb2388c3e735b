-- The nodes of a tree in pages that aren't older than a page, in the order in which a history lists them.
use Rattle.std.specs.Prelude.{◌≡◌, ℕ, suc, zero, ◌+◌, ◌<◌, ◌≤◌, ◌==◌, ◌&&◌, ◌||◌, List, [], ◌∷◌, ◌++◌, length, nat_le, nat_lt, slice_get, Bool, Option, Some, None, if◌then◌else◌}
use Rattle.tw_base.specs.declared.history.root.Root.{Root}
use Rattle.tw_base.specs.declared.history.thread.Entry.{Entry}
use Rattle.tw_disk.specs.Image.{Image}
use Rattle.tw_disk.specs.declared.limits.TheConstants.{FIRST_PAGE}
use Rattle.tw_disk.specs.Found.{Found, ◌>>=◌}
use Rattle.tw_disk.specs.Found.Found.{Is}
use Rattle.tw_rbnode.specs.Page.{TreePage}
use Rattle.tw_rbnode.specs.Shape.{Shape, Empty, Node, size}
use Rattle.tw_rbnode.specs.Slots.{below_at, slot_of}
use Rattle.tw_rbtree.specs.declared.listing.Part.{Part}
use Rattle.tw_rbtree.specs.declared.listing.Split.{Split}
use Rattle.tw_rbtree.specs.declared.new_node.NewNode.{NewNode}
use Rattle.tw_rbtree.specs.declared.new_node.Side.{Side}
use Rattle.tw_rbtree.specs.declared.new_node.Side.TheVariants.{Empty as NoTree, New, Old}
use Rattle.tw_rbtree.specs.Reading.{child_in, node_in}
use Rattle.tw_rbtree.specs.Ways.{child_page}

-- the nodes that are listed, and the side that the tree listed last is
pub record Listed : Type 0 where
  pub nodes : List NewNode
  pub side : Side

abbrev pub ListsAt : Type 0
ListsAt = (low high : Option Entry) → (place : ℕ) → List NewNode → Found Listed

-- a node behind those of its two sides
abbrev pub node_behind : Option Entry → (page : ℕ) → (left : Side) → Listed → Listed
node_behind None page left right = right
node_behind (Some e) page left right = record {
  nodes = right.nodes ++ record { left = left; entry = e; right = right.side; page = page } ∷ [];
  side = New (length right.nodes + 1);
}

-- the nodes of a page's tree: those of the left side, those of the right side, and then the node; the root has the number of the page
unfoldable pub listed_at : (child : ListsAt) → List Entry → (page : ℕ) → (low high : Option Entry) → (base : ℕ) → Shape → List NewNode → Found Listed
listed_at child es page low high base Empty nodes = child low high base nodes
listed_at child es page low high base (Node red l r) nodes =
    listed_at child es 0 low (slice_get es (base + size l)) base l nodes
    >>= (λ left. listed_at child es 0 (slice_get es (base + size l)) high (base + size l + 1) r left.nodes
    >>= (λ right. Is (node_behind (slice_get es (base + size l)) page left.side right)))

-- an older page: a number that pages have, below this one
unfoldable pub is_old : (page since : ℕ) → Bool
is_old page since = nat_le FIRST_PAGE page && nat_lt page since

module _ (dig : List ℕ → List ℕ) (pages : Image) (since : ℕ) where
  -- the nodes of what stands at a place of a page of this level, between these two entries; older pages are named and not read
  unfoldable pub child_listed : (level : ℕ) → TreePage → ListsAt
  child_listed zero p low high place nodes = Is (record { nodes = nodes; side = NoTree })
  child_listed (suc level) p low high place nodes =
      if is_old (child_page p place) since then Is (record { nodes = nodes; side = Old (child_page p place) })
      else (child_in dig pages level low high (child_page p place) >>= (λ q. listed_at (child_listed level q) q.entries (child_page p place) low high 0 q.shape nodes))

  -- the nodes of the tree's pages whose numbers are at least this one; a tree that has no page, or an older one as its root, has none
  unfoldable pub listed : Root → Found (List NewNode)
  listed root =
      if (root.page == 0) || is_old root.page since then Is []
      else (node_in dig pages root.page >>= (λ p. listed_at (child_listed p.level p) p.entries root.page None None 0 p.shape [] >>= (λ all. Is all.nodes)))

-- the part of a page's tree that has this root slot, where the tree's slots begin behind base; none is that of slot 0
unfoldable pub part_of_shape : (top base : ℕ) → Shape → Shape
part_of_shape top base Empty = Empty
part_of_shape top base (Node red l r) =
    if top == base + size l + 1 then Node red l r
    else (if nat_lt top (base + size l + 1) then part_of_shape top base l else part_of_shape top (base + size l + 1) r)

-- the nodes of the part of a page that has this root slot, whose slots begin behind base, and of the pages below it
unfoldable pub part_listed : (dig : List ℕ → List ℕ) → Image → (since : ℕ) → TreePage → (page : ℕ) → (low high : Option Entry) → (base top : ℕ) → List NewNode → Found Listed
part_listed dig pages since p page low high base top nodes =
    listed_at (child_listed dig pages since p.level p) p.entries page low high base (part_of_shape top 0 p.shape) nodes

-- the tree behind base is a part of the page's tree
abbrev pub IsPartOfShape : Shape → (base : ℕ) → Shape → Type 0
IsPartOfShape whole base t =
    (slot : ℕ) → base < slot → slot ≤ base + size t → (below_at slot 0 whole ≡ below_at slot base t) × (part_of_shape slot 0 whole ≡ part_of_shape slot base t)

-- the part of the page's tree in the slots above a base up to an end, with this root slot
pub record IsPartAt (p : TreePage) (base end top : ℕ) (t : Shape) : Type 0 where
  pub part : IsPartOfShape p.shape base t
  pub top_is : top ≡ slot_of base t
  pub end_is : end ≡ base + size t
  pub room : end ≤ length p.entries

-- a part of a page, taken apart at its root slot: what is listed of it is what is listed of the two parts beside the slot, and then its node
pub record IsSplit (p : TreePage) (part : Part) (s : Split) : Type 0 where
  pub before : IsPartAt p s.before.base s.before.end s.before.top (part_of_shape s.before.top 0 p.shape)
  pub behind : IsPartAt p s.behind.base s.behind.end s.behind.top (part_of_shape s.behind.top 0 p.shape)
  pub order : (s.before.base ≡ part.base) × (part.base ≤ s.before.end) × (s.before.end < s.behind.base) × (s.behind.base ≤ part.end) × (s.behind.end ≡ part.end)
  pub lists : (dig : List ℕ → List ℕ) (pages : Image) (since page : ℕ) (low high : Option Entry) (nodes : List NewNode) → part_listed dig pages since p page low high part.base part.top nodes
      ≡ (part_listed dig pages since p 0 low (Some s.entry) s.before.base s.before.top nodes
      >>= (λ left. part_listed dig pages since p 0 (Some s.entry) high s.behind.base s.behind.top left.nodes >>= (λ right. Is (node_behind (Some s.entry) page left.side right))))
