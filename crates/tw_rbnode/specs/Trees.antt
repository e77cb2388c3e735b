-- The tree that a page stands for, its label, and the nodes above a slot or a place.
use Rattle.std.specs.Prelude.{ℕ, ◌+◌, ◌*◌, ◌==◌, nat_lt, List, [], ◌∷◌, ◌++◌, map, slice_get, slice_index_or, Option, Some, None, if◌then◌else◌}
use Rattle.tw_base.specs.declared.history.thread.Entry.{Entry}
use Rattle.tw_base.specs.declared.history.tree_proof.Ancestor.{Ancestor}
use Rattle.tw_base.specs.history.Entries.{entry_text}
use Rattle.tw_base.specs.kinds.Texts.{empty_tree_text}
use Rattle.tw_base.specs.history.Tree.{Tree, branch}
use Rattle.tw_base.specs.history.Tree.Tree.{Empty as NoEntry}
use Rattle.tw_rbnode.specs.declared.child.Child.{Child}
use Rattle.tw_rbnode.specs.declared.node.Found.{Found}
use Rattle.tw_rbnode.specs.declared.node.Found.TheVariants.{At, Between}
use Rattle.tw_rbnode.specs.Page.{TreePage}
use Rattle.tw_rbnode.specs.Shape.{Shape, Empty, Node, size}

-- the tree of a shape: its entries are those of the list behind base, and at its empty places stand the trees from base on
unfoldable pub tree_at : List Entry → List Tree → (base : ℕ) → Shape → Tree
tree_at es trees base Empty = slice_index_or trees base NoEntry
tree_at es trees base (Node red l r) = branch (slice_get es (base + size l)) (tree_at es trees base l) (tree_at es trees (base + size l + 1) r)

-- the tree that a page stands for, over those that its children stand for
abbrev pub page_tree : TreePage → List Tree → Tree
page_tree p trees = tree_at p.entries trees 0 p.shape

abbrev pub labels_of : List Child → List (List ℕ)
labels_of children = map (λ (c : Child). c.label) children

-- the mark of a slot is twice its number, and that of a place lies between those of the slots beside it
abbrev pub mark_of : Found → ℕ
mark_of (At slot) = 2 * slot
mark_of (Between place) = 2 * place + 1

module _ (dig : List ℕ → List ℕ) where
  abbrev pub label_over : (left : List ℕ) → Option Entry → (right : List ℕ) → List ℕ
  label_over left None right = dig empty_tree_text
  label_over left (Some e) right = dig (entry_text left e right)

  -- the label of the same tree, by those of the children
  unfoldable pub label_at : List Entry → (labels : List (List ℕ)) → (base : ℕ) → Shape → List ℕ
  label_at es labels base Empty = slice_index_or labels base (dig empty_tree_text)
  label_at es labels base (Node red l r) =
      label_over (label_at es labels base l) (slice_get es (base + size l)) (label_at es labels (base + size l + 1) r)

  abbrev pub page_label : TreePage → List ℕ
  page_label p = label_at p.entries (labels_of p.children) 0 p.shape

  -- the labels of the sides of the node in this slot
  unfoldable pub sides_at : List Entry → (labels : List (List ℕ)) → (slot base : ℕ) → Shape → List ℕ × List ℕ
  sides_at es labels slot base Empty = ([], [])
  sides_at es labels slot base (Node red l r) =
      if slot == base + size l + 1 then (label_at es labels base l, label_at es labels (base + size l + 1) r)
      else (if nat_lt slot (base + size l + 1) then sides_at es labels slot base l else sides_at es labels slot (base + size l + 1) r)

  -- the node of this entry above, with the label of its other side
  abbrev pub node_above : Option Entry → (other : List ℕ) → List Ancestor
  node_above None other = []
  node_above (Some e) other = record { entry = e; other = other } ∷ []

  -- the nodes above a mark, nearest first
  unfoldable pub above_at : List Entry → (labels : List (List ℕ)) → (mark base : ℕ) → Shape → List Ancestor
  above_at es labels mark base Empty = []
  above_at es labels mark base (Node red l r) =
      if mark == 2 * (base + size l + 1) then []
      else (if nat_lt mark (2 * (base + size l + 1))
      then above_at es labels mark base l ++ node_above (slice_get es (base + size l)) (label_at es labels (base + size l + 1) r)
      else above_at es labels mark (base + size l + 1) r ++ node_above (slice_get es (base + size l)) (label_at es labels base l))

  -- the nodes of a page above a slot or a place
  abbrev pub nodes_above : TreePage → Found → List Ancestor
  nodes_above p at = above_at p.entries (labels_of p.children) (mark_of at) 0 p.shape

-- lists with an entry between each two: what a page lists over what its children list
abbrev pub woven : List (List Entry) → List Entry → List Entry
woven [] es = es
woven (c ∷ cs) [] = c
woven (c ∷ cs) (e ∷ es) = c ++ e ∷ woven cs es
