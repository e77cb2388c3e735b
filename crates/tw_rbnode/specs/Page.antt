-- One page of an archive's tree: the shape of its own tree, the entries in order, and the children at the tree's empty places.
use Rattle.std.specs.Prelude.{◌≡◌, ℕ, suc, zero, ◌+◌, ◌≤◌, ◌<◌, Bool, cond, List, [], ◌∷◌, length, take, drop, Option, Some, None, refl, nat_eq}
use Rattle.std.specs.Coded.{Coded, code_by, coded_list, coded_option, coded_bool}
use Rattle.std.proofs.Common.{ap, ◌∙◌}
use Rattle.tw_base.specs.declared.history.thread.Entry.{Entry}
use Rattle.tw_base.specs.declared.history.thread.Key.{Key}
use Rattle.tw_base.specs.history.Entries.{KeyBelow, key_of}
use Rattle.tw_base.specs.history.Limits.{IsEntryInRange}
use Rattle.tw_base.specs.kinds.Lists.{Each}
use Rattle.tw_base.specs.history.Tree.{IsRising}
use Rattle.tw_rbnode.specs.declared.limits.TheConstants.{MOST_KEYS, TOP_LEVEL}
use Rattle.tw_rbnode.specs.declared.child.Child.{Child}
use Rattle.tw_rbnode.specs.declared.links.Link.{Link}
use Rattle.tw_rbnode.specs.Shape.{Shape, Empty, Node, size, IsRedBlack}

pub record TreePage : Type 0 where
  pub level : ℕ
  pub shape : Shape
  pub entries : List Entry
  pub children : List Child

-- ---- shapes as lists, from which they are read back

-- the nodes of a shape, both sides before the node
abbrev pub written_shape : Shape → List (Option Bool) → List (Option Bool)
written_shape Empty rest = None ∷ rest
written_shape (Node red l r) rest = written_shape l (written_shape r (Some red ∷ rest))

abbrev pub over_two : Bool → List Shape → List Shape
over_two red [] = []
over_two red (r ∷ []) = []
over_two red (r ∷ l ∷ under) = Node red l r ∷ under

abbrev pub read_back : List (Option Bool) → List Shape → List Shape
read_back [] under = under
read_back (None ∷ rest) under = read_back rest (Empty ∷ under)
read_back (Some red ∷ rest) under = read_back rest (over_two red under)

pub read_back-written : (t : Shape) (rest : List (Option Bool)) (under : List Shape) → read_back (written_shape t rest) under ≡ read_back rest (t ∷ under)
read_back-written Empty rest under = refl
read_back-written (Node red l r) rest under =
    read_back-written l (written_shape r (Some red ∷ rest)) under ∙ read_back-written r (Some red ∷ rest) (l ∷ under)

abbrev pub first_of_list : List Shape → Shape
first_of_list [] = Empty
first_of_list (t ∷ ts) = t

abbrev pub coded_shape : Coded Shape
coded_shape = code_by (List (Option Bool)) (coded_list (coded_option coded_bool)) (λ t. written_shape t []) (λ xs. first_of_list (read_back xs [])) (λ t. ap first_of_list (read_back-written t [] []))

-- the tree that slots hold, to a depth
unfoldable pub shape_of : ℕ → (ℕ → Option Link) → ℕ → Shape
shape_of zero f slot = Empty
shape_of (suc depth) f slot = cond (nat_eq slot 0) Empty (elim (f slot) [ None ↦ Empty | Some x ↦ Node x.red (shape_of depth f x.left) (shape_of depth f x.right) ])

-- ---- what a page is

-- 1 to 24 entries whose keys rise, at the nodes of a red-black tree, and a child at each of its empty places
pub record IsNode (p : TreePage) : Type 0 where
  pub level : p.level ≤ TOP_LEVEL
  pub some : 0 < length p.entries
  pub most : length p.entries ≤ MOST_KEYS
  pub sized : size p.shape ≡ length p.entries
  pub places : length p.children ≡ length p.entries + 1
  pub lawful : IsRedBlack p.shape
  pub rising : IsRising p.entries
  pub ranges : Each IsEntryInRange p.entries

-- the key lies above those of the entries before the place, and below those of the entries behind it
pub record IsBetween (es : List Entry) (place : ℕ) (key : Key) : Type 0 where
  pub there : place ≤ length es
  pub above : Each (λ e. KeyBelow (key_of e) key) (take place es)
  pub below : Each (λ e. KeyBelow key (key_of e)) (drop place es)
