-- Which tree page the fields of bytes are, and whether it may stand under a number, as a test.
use Rattle.std.specs.Prelude.{ℕ, suc, zero, ◌+◌, ◌==◌, ◌&&◌, ◌||◌, List, [], ◌∷◌, map, slice_get, nat_lt, bytes_eq, Bool, true, false, not, is_some, Option, Some, None, if◌then◌else◌}
use Rattle.std.specs.Bool.{beq}
use Rattle.std.specs.Cmp.Lexicographic.{pointwise}
use Rattle.std.specs.Ordering.{is_lt}
use Rattle.tw_base.specs.declared.history.thread.Entry.{Entry}
use Rattle.tw_base.specs.history.Entries.{key_cmp, key_of}
use Rattle.tw_base.specs.kinds.Texts.{empty_tree_text}
use Rattle.tw_rbnode.specs.declared.child.Child.{Child}
use Rattle.tw_rbnode.specs.declared.links.Link.{Link}
use Rattle.tw_rbnode.specs.declared.slot.Slot.{Slot}
use Rattle.tw_rbnode.specs.NodeBytes.{Held, links_of}
use Rattle.tw_rbnode.specs.Page.{TreePage, shape_of}
use Rattle.tw_rbnode.specs.Shape.{Shape, Empty, Node, is_red}
use Rattle.tw_rbnode.specs.Slots.{link, slot_of}

abbrev pub all_are : {X : Type 0} → (X → Bool) → List X → Bool
all_are test [] = true
all_are test (x ∷ xs) = test x && all_are test xs

-- the page that has these fields: its tree is what the slots are from the root slot down
abbrev pub page_of : ℕ × Held → TreePage
page_of f = record {
  level = f.0;
  shape = shape_of 25 (slice_get (link false 0 0 ∷ map (λ (s : Slot). s.link) f.1.1.0)) f.1.0;
  entries = map (λ (s : Slot). s.entry) f.1.1.0;
  children = f.1.1.1;
}

-- the root slot and the links are those of this tree
abbrev pub is_link : Link → Link → Bool
is_link x y = beq x.red y.red && ((x.left == y.left) && (x.right == y.right))

abbrev pub are_links_of : Shape → Held → Bool
are_links_of t h = (h.0 == slot_of 0 t) && pointwise is_link (map (λ (s : Slot). s.link) h.1.0) (links_of 0 t)

-- how many black nodes stand on each way down, where they are as many on all, and no red node has a red child
abbrev pub height_over : (red : Bool) → (left right : Option ℕ) → Option ℕ
height_over red (Some h) (Some k) = if h == k then Some (if red then h else h + 1) else None
height_over red _ _ = None

abbrev pub height_in : Shape → Option ℕ
height_in Empty = Some 0
height_in (Node red l r) = if red && (is_red l || is_red r) then None else height_over red (height_in l) (height_in r)

abbrev pub is_red_black : Shape → Bool
is_red_black t = not (is_red t) && is_some (height_in t)

-- the keys rise
abbrev pub are_rising : List Entry → Bool
are_rising [] = true
are_rising (e ∷ es) = all_are (λ (f : Entry). is_lt (key_cmp (key_of e) (key_of f))) es && are_rising es

-- a child at level 0 is the empty tree, and above it a page below this one
abbrev pub is_child : (dig : List ℕ → List ℕ) → (page level : ℕ) → Child → Bool
is_child dig page zero c = (c.page == 0) && bytes_eq c.label (dig empty_tree_text)
is_child dig page (suc level) c = nat_lt 0 c.page && nat_lt c.page page

abbrev pub are_children : (dig : List ℕ → List ℕ) → (page level : ℕ) → List Child → Bool
are_children dig page level cs = all_are (is_child dig page level) cs

-- the page that has these fields may stand under this number
unfoldable pub may_stand : (dig : List ℕ → List ℕ) → (page : ℕ) → ℕ × Held → Bool
may_stand dig page f =
    are_links_of (page_of f).shape f.1 && (is_red_black (page_of f).shape && (are_rising (page_of f).entries && are_children dig page f.0 f.1.1.1))
