-- Listed nodes stand in postorder.
use Rattle.std.proofs.Common.{◌≡◌, ℕ, suc, zero, ◌+◌, ◌-◌, ◌≤◌, List, [], ◌∷◌, ◌++◌, length, Bool, true, false, refl}
use Rattle.std.proofs.Common.{ap, sym, ◌∙◌, subst, arith, append_assoc, append-nil, length-append}
use Rattle.std.specs.Prelude.{Option, Some, None, if◌then◌else◌}
use Rattle.tw_base.specs.declared.history.root.Root.{Root}
use Rattle.tw_base.specs.declared.history.thread.Entry.{Entry}
use Rattle.tw_disk.specs.Found.{Found, ◌>>=◌}
use Rattle.tw_disk.specs.Found.Found.{Is}
use Rattle.tw_disk.specs.Image.{Image}
use Rattle.tw_disk.proofs.FoundLaws.{same_found}
use Rattle.tw_rbnode.specs.Page.{TreePage}
use Rattle.tw_rbnode.specs.Shape.{Shape, Empty, Node, size}
use Rattle.tw_rbnode.proofs.TreeLists.{get-some}
use Rattle.tw_rbtree.specs.declared.new_node.NewNode.{NewNode}
use Rattle.tw_rbtree.specs.declared.new_node.Side.TheVariants.{Empty as NoSide, New, Old}
use Rattle.tw_rbtree.specs.Listing.{Listed, ListsAt, child_listed, listed, listed_at, node_behind}
use Rattle.tw_rbtree.specs.Postorder.{ListedTree, NamesSides, postorder, side_of}
use Rattle.tw_rbtree.specs.Postorder.ListedTree.{NoTree, OldTree, Between}
use Rattle.tw_rbtree.specs.Ways.{child_page}
use Rattle.tw_rbtree.specs.Reading.{child_in, node_in}
use Rattle.tw_rbtree.proofs.ListLaws.{below_found, from_both, listed-empty, sides-listed}
use Rattle.tw_rbtree.proofs.OwnPages.{child-page}
use Rattle.tw_rbtree.proofs.PageLaws.{is-root}

-- what was listed behind these nodes is a tree in postorder
record Grows (nodes : List NewNode) (before : ℕ) (all : Listed) : Type 0 where
  pub tree : ListedTree
  pub names : NamesSides before tree
  pub are : all.nodes ≡ nodes ++ postorder tree
  pub side_is : all.side ≡ side_of before tree

turned : (nodes : List NewNode) (before : ℕ) (one all : Listed) → one ≡ all → Grows nodes before one
    → Grows nodes before all
turned nodes before one all same = subst (Grows nodes before) same

no-tree : (nodes : List NewNode) (before : ℕ) → Grows nodes before (record { nodes = nodes; side = NoSide })
no-tree nodes before = record { tree = NoTree; names = tt; are = sym (append-nil nodes); side_is = refl }

old-tree : (nodes : List NewNode) (before page : ℕ) → Grows nodes before (record { nodes = nodes; side = Old page })
old-tree nodes before page = record { tree = OldTree page; names = tt; are = sym (append-nil nodes); side_is = refl }

-- a node behind those of its sides
between : (nodes : List NewNode) (before page : ℕ) (e : Entry) (left right : Listed) → length nodes ≡ before
    → (one : Grows nodes before left)
    → Grows left.nodes (before + length (postorder one.tree)) right
    → Grows nodes before (node_behind (Some e) page left.side right)
between nodes before page e left right count one two =
    let n : NewNode = record { left = left.side; entry = e; right = right.side; page = page } in
    let l : List NewNode = postorder one.tree in
    let r : List NewNode = postorder two.tree in
    let all : right.nodes ++ n ∷ [] ≡ nodes ++ (l ++ (r ++ n ∷ [])) =
    ap (λ (ns : List NewNode). ns ++ n ∷ []) (two.are ∙ ap (λ (ns : List NewNode). ns ++ r) one.are)
    ∙ append_assoc (nodes ++ l) r (n ∷ []) ∙ append_assoc nodes l (r ++ n ∷ []) in
    let size : length right.nodes + 1 ≡ before + length (l ++ (r ++ n ∷ [])) =
    omega (arith, count, length-append right.nodes (n ∷ []), ap length all, length-append nodes (l ++ (r ++ n ∷ []))) in
    record {
      tree = Between one.tree n two.tree;
      names = (one.side_is, two.side_is, one.names, two.names);
      are = all;
      side_is = ap New size;
    }

after : (nodes : List NewNode) (before : ℕ) (left : Listed) → length nodes ≡ before → (one : Grows nodes before left)
    → length left.nodes ≡ before + length (postorder one.tree)
after nodes before left count one = omega (arith, count, ap length one.are, length-append nodes (postorder one.tree))

module _ (child : ListsAt) (es : List Entry)
    (grows : (low high : Option Entry) (place : ℕ) (nodes : List NewNode) (before : ℕ) (all : Listed)
    → place ≤ length es → length nodes ≡ before → child low high place nodes ≡ Is all → Grows nodes before all) where
  shape-grows : (page : ℕ) (low high : Option Entry) (base : ℕ) (s : Shape) (nodes : List NewNode) (before : ℕ)
      (all : Listed) → base + size s ≤ length es → length nodes ≡ before
      → listed_at child es page low high base s nodes ≡ Is all → Grows nodes before all
  shape-grows page low high base Empty nodes before all room count found = grows low high base nodes before all
      (omega (arith, room)) count (sym (listed-empty child es page low high base nodes Empty refl) ∙ found)
  shape-grows page low high base (Node red l r) nodes before all room count found =
      let here = get-some es [] es (base + size l) (omega (arith, room)) in
      let e : Entry = here.0 in
      let sides = sides-listed child es page low high base nodes red l r e all here.1 found in
      let left = sides.left in
      let right = sides.right in
      let one = shape-grows 0 low (Some e) base l nodes before left (omega (arith, room)) count sides.left_is in
      let two = shape-grows 0 (Some e) high (base + size l + 1) r left.nodes (before + length (postorder one.tree))
      right (omega (arith, room)) (after nodes before left count one) sides.right_is in
      turned nodes before (node_behind (Some e) page left.side right) all sides.all_is
      (between nodes before page e left right count one two)

module _ (dig : List ℕ → List ℕ) (ps : Image) (since : ℕ) where
  -- an older page is named, and the nodes of another one are listed
  by_age : (level : ℕ) (p : TreePage) (low high : Option Entry) (place : ℕ) (nodes : List NewNode) (before : ℕ)
      (all : Listed) (old : Bool)
      → (if old then Is (record { nodes = nodes; side = Old (child_page p place) })
      else (child_in dig ps level low high (child_page p place) >>= below_found dig ps since p low high place nodes
      level)) ≡ Is all
      → ((q : TreePage) → child_in dig ps level low high (child_page p place) ≡ Is q → below_found dig ps since p low
      high place nodes level q ≡ Is all → Grows nodes before all) → Grows nodes before all
  by_age level p low high place nodes before all true found on =
      let named : Listed = record { nodes = nodes; side = Old (child_page p place) } in
      turned nodes before named all (same_found named all found) (old-tree nodes before (child_page p place))
  by_age level p low high place nodes before all false found on =
      let both = from_both (child_in dig ps level low high (child_page p place))
      (below_found dig ps since p low high place nodes level) all found in on both.0 both.1 both.2

  child-grows : (level : ℕ) (p : TreePage) (low high : Option Entry) (place : ℕ) (nodes : List NewNode) (before : ℕ)
      (all : Listed) → place ≤ length p.entries → length nodes ≡ before
      → child_listed dig ps since level p low high place nodes ≡ Is all → Grows nodes before all
  unfolding child_listed
  child-grows zero p low high place nodes before all room count found =
      let none : Listed = record { nodes = nodes; side = NoSide } in turned nodes before none all
      (same_found none all found) (no-tree nodes before)
  child-grows (suc level) p low high place nodes before all room count found =
      by_age level p low high place nodes before all _ found (λ q read rest.
      let sized = (is-root dig ps (child_page p place) q (child-page dig ps level low high (child_page p place) q
      read)).may_stand.node.sized in
      shape-grows (child_listed dig ps since level q) q.entries (child-grows level q) (child_page p place) low high 0
      q.shape nodes before all (omega (arith, sized)) count rest)

  -- whatever the pages keep
  pub root-grows : (root : Root) (nodes : List NewNode) → listed dig ps since root ≡ Is nodes → (tree : ListedTree)
      × NamesSides 0 tree × (postorder tree ≡ nodes)
  unfolding listed
  root-grows root nodes found = by _ found
    where
      from_page : TreePage → Found (List NewNode)
      from_page p = listed_at (child_listed dig ps since p.level p) p.entries root.page None None 0 p.shape []
          >>= (λ (all : Listed). Is all.nodes)

      by : (older : Bool) → (if older then Is [] else (node_in dig ps root.page >>= from_page)) ≡ Is nodes
          → (tree : ListedTree) × NamesSides 0 tree × (postorder tree ≡ nodes)
      by true e = (NoTree, tt, same_found [] nodes e)
      by false e =
          let first = from_both (node_in dig ps root.page) from_page nodes e in
          let p : TreePage = first.0 in
          let last = from_both (listed_at (child_listed dig ps since p.level p) p.entries root.page None None 0 p.shape
          []) (λ (all : Listed). Is all.nodes) nodes first.2 in
          let sized = (is-root dig ps root.page p first.1).may_stand.node.sized in
          let all = shape-grows (child_listed dig ps since p.level p) p.entries (child-grows p.level p) root.page None
          None 0 p.shape [] 0 last.0 (omega (arith, sized)) refl last.1 in
          (all.tree, all.names, sym all.are ∙ same_found last.0.nodes nodes last.2)
