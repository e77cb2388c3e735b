-- How many nodes a way has, and how many entries a tree of so many levels.
use Rattle.std.proofs.Common.{◌≡◌, ℕ, suc, zero, ◌+◌, ◌*◌, ◌^◌, ◌≤◌, List, [], ◌∷◌, ◌++◌, length, Bool, true, false}
use Rattle.std.proofs.Common.{refl, ap, sym, ◌∙◌, arith, slice_get, length-append}
use Rattle.std.specs.Prelude.{◌==◌, nat_lt, max, map, Option, Some, None, if◌then◌else◌}
use Rattle.std.proofs.Math.Nat.{le-max_left, le-max_right, mul-le-mul_right, suc-mul}
use Rattle.tw_base.specs.declared.history.thread.Entry.{Entry}
use Rattle.tw_base.specs.declared.history.tree_proof.Ancestor.{Ancestor}
use Rattle.tw_base.specs.kinds.Lists.{Each}
use Rattle.tw_base.specs.history.Tree.{Tree, entries}
use Rattle.tw_disk.specs.Image.{Image}
use Rattle.tw_rbnode.specs.declared.child.Child.{Child}
use Rattle.tw_rbnode.specs.declared.node.Found.{Found as Spot}
use Rattle.tw_rbnode.specs.Page.{IsNode, TreePage}
use Rattle.tw_rbnode.specs.Shape.{Shape, Empty, Node, depth, size}
use Rattle.tw_rbnode.specs.Trees.{above_at, label_at, labels_of, mark_of, node_above, nodes_above, woven}
use Rattle.tw_rbnode.proofs.RedBlack.{depth_at_most}
use Rattle.tw_rbnode.proofs.TreeLists.{page-list}
use Rattle.tw_rbtree.specs.Standing.{AreTrees, IsTreeBelow, IsTreePage, any_page}

module _ (dig : List ℕ → List ℕ) where
  one_above : (o : Option Entry) (label : List ℕ) → length (node_above dig o label) ≤ 1
  one_above None label = omega arith
  one_above (Some e) label = omega arith

  above-short : (es : List Entry) (ls : List (List ℕ)) (mark base : ℕ) (t : Shape)
      → length (above_at dig es ls mark base t) ≤ depth t
  unfolding above_at
  above-short es ls mark base Empty = omega arith
  above-short es ls mark base (Node red l r) =
      by (mark == 2 * (base + size l + 1)) (nat_lt mark (2 * (base + size l + 1))) (above-short es ls mark base l)
      (above-short es ls mark (base + size l + 1) r)
    where
      one : List Ancestor
      one = above_at dig es ls mark base l ++ node_above dig (slice_get es (base + size l))
          (label_at dig es ls (base + size l + 1) r)

      two : List Ancestor
      two = above_at dig es ls mark (base + size l + 1) r ++ node_above dig (slice_get es (base + size l))
          (label_at dig es ls base l)

      by : (here left : Bool) → length (above_at dig es ls mark base l) ≤ depth l
          → length (above_at dig es ls mark (base + size l + 1) r) ≤ depth r
          → length (if here then [] else (if left then one else two)) ≤ suc (max (depth l) (depth r))
      by true left a b = omega arith
      by false true a b =
          omega (
            arith,
            a,
            length-append (above_at dig es ls mark base l) (node_above dig (slice_get es (base + size l))
                (label_at dig es ls (base + size l + 1) r)),
            one_above (slice_get es (base + size l)) (label_at dig es ls (base + size l + 1) r),
            le-max_left (depth l) (depth r),
          )
      by false false a b =
          omega (
            arith,
            b,
            length-append (above_at dig es ls mark (base + size l + 1) r) (node_above dig (slice_get es (base + size l))
                (label_at dig es ls base l)),
            one_above (slice_get es (base + size l)) (label_at dig es ls base l),
            le-max_right (depth l) (depth r),
          )

  -- a page has at most 9 nodes on a way down
  pub page-short : (p : TreePage) (at : Spot) → IsNode p → length (nodes_above dig p at) ≤ 9
  page-short p at node =
      omega (
        arith,
        above-short p.entries (labels_of p.children) (mark_of at) 0 p.shape,
        depth_at_most p.shape node.lawful (omega (arith, node.sized, node.most)),
      )

-- ---- entries

woven-count : (m : ℕ) (cs : List (List Entry)) (es : List Entry) → length cs ≡ length es + 1
    → Each (λ c. m ≤ length c + 1) cs → length cs * m ≤ length (woven cs es) + 1
woven-count m [] es count all = absurd (omega (arith, count))
woven-count m (c ∷ []) [] count all = omega (arith, all.0, suc-mul 0 m)
woven-count m (c ∷ d ∷ cs) [] count all = absurd (omega (arith, count))
woven-count m (c ∷ cs) (e ∷ es) count all =
    omega (
      arith,
      all.0,
      woven-count m cs es (omega (arith, count)) all.1,
      suc-mul (length cs) m,
      length-append c (e ∷ woven cs es),
    )

module _ (dig : List ℕ → List ℕ) (ps : Image) where
  all-counts : (R : Child → Tree → Type 0) (m : ℕ) → ((c : Child) (t : Tree) → R c t → m ≤ length (entries t) + 1)
      → (cs : List Child) (ts : List Tree) → AreTrees R cs ts
      → Each (λ c. m ≤ length c + 1) (map entries ts) × (length (map entries ts) ≡ length cs)
  all-counts R m least [] [] are = (tt, refl)
  all-counts R m least [] (t ∷ ts) are = absurd are
  all-counts R m least (c ∷ cs) [] are = absurd are
  all-counts R m least (c ∷ cs) (t ∷ ts) are = let rest = all-counts R m least cs ts are.1 in
      ((least c t are.0, rest.0), ap suc rest.1)

  -- a page with so many keys over children with so many entries
  pub page-count : (R : Child → Tree → Type 0) (m level least page : ℕ) (t : Tree)
      → ((c : Child) (t : Tree) → R c t → m ≤ length (entries t) + 1) → IsTreePage dig any_page ps R level least page t
      → (least + 1) * m ≤ length (entries t) + 1
  page-count R m level least page t below is =
      let counts = all-counts R m below is.node.children is.trees is.are_trees in
      let node = is.at.may_stand.node in
      let trees : length is.trees ≡ length is.node.children = sym (map-length is.trees) ∙ counts.1 in
      let list : entries t ≡ woven (map entries is.trees) is.node.entries = ap entries is.tree_is ∙ page-list is.node
      is.trees node trees in
      let children : length (map entries is.trees) ≡ length is.node.entries + 1 = counts.1 ∙ node.places in
      let whole = woven-count m (map entries is.trees) is.node.entries children counts.0 in
      let enough : (least + 1) * m ≤ length (map entries is.trees) * m =
      mul-le-mul_right m (omega (arith, children, is.least_keys)) in
      omega (arith, whole, enough, ap length list)
    where
      map-length : (ts : List Tree) → length (map entries ts) ≡ length ts
      map-length [] = refl
      map-length (t ∷ ts) = ap suc (map-length ts)

  pub below-count : (level : ℕ) (c : Child) (t : Tree) → IsTreeBelow dig any_page ps level c t
      → 13 ^ level ≤ length (entries t) + 1
  unfolding IsTreeBelow
  below-count zero c t is = omega arith
  below-count (suc level) c t is =
      let here = page-count (IsTreeBelow dig any_page ps level) (13 ^ level) level 12 c.page t (below-count level)
      is.1 in
      let power : 13 ^ suc level ≡ 13 * 13 ^ level = power_more level in
      omega (arith, here, power)
    where
      power_more : (n : ℕ) → 13 ^ suc n ≡ 13 * 13 ^ n
      power_more n = grind arith

  -- a root page of this level has at least two children
  pub root-count : (level page : ℕ) (t : Tree) → IsTreePage dig any_page ps (IsTreeBelow dig any_page ps level) level 1
      page t → 2 * 13 ^ level ≤ length (entries t) + 1
  root-count level page t is = page-count (IsTreeBelow dig any_page ps level) (13 ^ level) level 1 page t
      (below-count level) is
