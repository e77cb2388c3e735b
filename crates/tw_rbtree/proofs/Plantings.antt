-- The nodes that are listed of pages that stand for a tree.
use Rattle.std.proofs.Common.{◌≡◌, ◌≢◌, ℕ, suc, zero, ◌+◌, ◌-◌, ◌<◌, ◌≤◌, List, [], ◌∷◌, ◌++◌, length, false, refl, ap}
use Rattle.std.proofs.Common.{sym, ◌∙◌, subst, arith, ◌⊎◌, inl, inr, slice_get, append_assoc, append-nil, length-append}
use Rattle.std.specs.Prelude.{◌==◌, ◌||◌, Option, Some, None, slice_index_or}
use Rattle.std.proofs.lemmas.Option.{none-some}
use Rattle.std.proofs.lemmas.Bool.{ne_eqb}
use Rattle.tw_base.specs.declared.history.root.Root.{Root}
use Rattle.tw_base.specs.declared.history.thread.Entry.{Entry}
use Rattle.tw_base.specs.declared.history.tree_proof.Ask.{Ask}
use Rattle.tw_base.specs.declared.history.tree_proof.Ask.TheVariants.{Absent}
use Rattle.tw_base.specs.history.Entries.{KeyBelow, key_of}
use Rattle.tw_base.specs.kinds.Lists.{Each, In}
use Rattle.tw_base.specs.history.Tree.{Tree, IsRising, branch, entries}
use Rattle.tw_base.specs.history.Tree.Tree.{Empty as NoEntry, Branch}
use Rattle.tw_base.proofs.lemmas.history.Keys.{KeyBelow-irrefl, KeyBelow-trans}
use Rattle.tw_base.proofs.lemmas.history.KeyTests.{lt-below}
use Rattle.tw_base.proofs.lemmas.kinds.ListLemmas.{Apart, Each-append, Each-in, Each-map, Each-parts, In-left, In-right}
use Rattle.tw_disk.specs.Found.{Found, ◌>>=◌}
use Rattle.tw_disk.specs.Found.Found.{Is, Bad}
use Rattle.tw_disk.specs.Image.{Image}
use Rattle.tw_disk.proofs.FoundLaws.{is_on, same_found}
use Rattle.tw_rbnode.specs.Page.{TreePage}
use Rattle.tw_rbnode.specs.Shape.{Shape, Empty, Node, size}
use Rattle.tw_rbnode.specs.Trees.{page_tree, tree_at}
use Rattle.tw_rbnode.proofs.TreeLists.{get-some}
use Rattle.tw_base.proofs.lemmas.history.Asked.{cut}
use Rattle.tw_rbtree.specs.declared.new_node.NewNode.{NewNode}
use Rattle.tw_rbtree.specs.declared.new_node.Side.{Side}
use Rattle.tw_rbtree.specs.declared.new_node.Side.TheVariants.{Empty as NoTree, New, Old}
use Rattle.tw_rbtree.specs.Listing.{Listed, ListsAt, child_listed, is_old, listed, listed_at, node_behind}
use Rattle.tw_rbtree.specs.Planting.{AreNodeTrees, IsMarkOf, IsSideTree}
use Rattle.tw_rbtree.specs.Reading.{IsPageAt, child_in, node_in}
use Rattle.tw_rbtree.specs.Standing.{AreTrees, IsRootTree, IsTreeBelow, IsTreePage, OfPage, StandsWith, any_page}
use Rattle.tw_rbtree.proofs.Keeping.{below-any, below-once, tree_page-as, tree_page-once, trees-map}
use Rattle.tw_rbtree.specs.Ways.{child_page}
use Rattle.tw_rbtree.proofs.ListLaws.{below_found, is-new, is-old, listed-empty, listed-leaf, listed-node, listed-old}
use Rattle.tw_rbtree.proofs.ListLaws.{listed-on, listed-root}
use Rattle.tw_rbtree.proofs.PageLaws.{child-is, one_page, root-is}
use Rattle.tw_rbtree.proofs.RootWays.{all_between}
use Rattle.tw_rbtree.proofs.Standings.{fits-true, own_between, tree-at}
use Rattle.tw_rbtree.proofs.WayLaws.{child_page-get}
use Rattle.tw_rbtree.proofs.Weaving.{LiesBetween}

-- a question, where it makes no difference which
any_ask : Ask
any_ask = Absent (record { from = []; step = 0 })

get-more : (ts more : List Tree) (i : ℕ) (t : Tree) → slice_get ts i ≡ Some t → slice_get (ts ++ more) i ≡ Some t
get-more [] more i t e = absurd (none-some t e)
get-more (x ∷ ts) more zero t e = e
get-more (x ∷ ts) more (suc i) t e = get-more ts more i t e

get-last : {X : Type 0} (ts : List X) (t : X) → slice_get (ts ++ t ∷ []) (length ts) ≡ Some t
get-last [] t = refl
get-last (x ∷ ts) t = get-last ts t

-- the entries of one tree are entries of another
abbrev pub IsWithin : (whole t : Tree) → Type 0
IsWithin whole t = (e : Entry) → In e (entries t) → In e (entries whole)

-- a tree of some entries, which are entries of another
abbrev pub IsPart : (whole t : Tree) → Type 0
IsPart whole t = ((e : Entry) × In e (entries t)) × IsWithin whole t

apart-append : (xs ys : List Tree) → Apart xs → Apart ys → Each (λ x. Each (λ y. x ≢ y) ys) xs → Apart (xs ++ ys)
apart-append [] ys one two all = two
apart-append (x ∷ xs) ys one two all =
    (Each-append (λ (y : Tree). x ≢ y) xs ys one.0 all.0, apart-append xs ys one.1 two all.1)

module _ (l : Tree) (e : Entry) (r : Tree) (ls rs : List Tree) where
  branch-parts : Each (IsPart l) ls → Each (IsPart r) rs → Each (IsPart (Branch l e r))
      (ls ++ (rs ++ Branch l e r ∷ []))
  branch-parts left right =
      let whole : Tree = Branch l e r in
      Each-append (IsPart whole) ls (rs ++ whole ∷ []) (Each-map (IsPart l) (IsPart whole) ls
      (λ t has. (has.0, λ f there. In-left f (entries l) (e ∷ entries r) (has.1 f there))) left)
      (Each-append (IsPart whole) rs (whole ∷ []) (Each-map (IsPart r) (IsPart whole) rs
      (λ t has. (has.0, λ f there. In-right f (entries l) (e ∷ entries r) (inr (has.1 f there)))) right)
      (((e, In-right e (entries l) (e ∷ entries r) (inl refl)), λ f there. there), tt))

  module _ (rising : IsRising (entries l ++ e ∷ entries r)) where
    left-below : (f : Entry) → In f (entries l) → KeyBelow (key_of f) (key_of e)
    left-below f there = Each-in (λ g. KeyBelow (key_of g) (key_of e)) (entries l) f
        (cut (entries l) e (entries r) rising).lower there

    right-above : (f : Entry) → In f (entries r) → KeyBelow (key_of e) (key_of f)
    right-above f there = Each-in (λ g. KeyBelow (key_of e) (key_of g)) (entries r) f
        (cut (entries l) e (entries r) rising).upper there

    own : In e (entries (Branch l e r))
    own = In-right e (entries l) (e ∷ entries r) (inl refl)

    left-whole : (s : Tree) → IsPart l s → s ≢ Branch l e r
    left-whole s part same = KeyBelow-irrefl (key_of e)
        (left-below e (part.1 e (subst (λ (x : Tree). In e (entries x)) (sym same) own)))

    right-whole : (s : Tree) → IsPart r s → s ≢ Branch l e r
    right-whole s part same = KeyBelow-irrefl (key_of e)
        (right-above e (part.1 e (subst (λ (x : Tree). In e (entries x)) (sym same) own)))

    left-right : (s u : Tree) → IsPart l s → IsPart r u → s ≢ u
    left-right s u one two same =
        let f : Entry = one.0.0 in
        KeyBelow-irrefl (key_of f) (KeyBelow-trans (key_of f) (key_of e) (key_of f) (left-below f (one.1 f one.0.1))
        (right-above f (two.1 f (subst (λ (x : Tree). In f (entries x)) same one.0.1))))

    branch-apart : Each (IsPart l) ls → Each (IsPart r) rs → Apart ls → Apart rs
        → Apart (ls ++ (rs ++ Branch l e r ∷ []))
    branch-apart left right one two =
        let back : Apart (rs ++ Branch l e r ∷ []) = apart-append rs (Branch l e r ∷ []) two (tt, tt)
        (Each-map (IsPart r) (λ (s : Tree). Each (λ (y : Tree). s ≢ y) (Branch l e r ∷ [])) rs
        (λ s part. (right-whole s part, tt)) right) in
        apart-append ls (rs ++ Branch l e r ∷ []) one back
        (Each-map (IsPart l) (λ (s : Tree). Each (λ (y : Tree). s ≢ y) (rs ++ Branch l e r ∷ [])) ls
        (λ s part. Each-append (λ (y : Tree). s ≢ y) rs (Branch l e r ∷ []) (Each-map (IsPart r) (λ (y : Tree). s ≢ y)
        rs (λ u has. left-right s u part has) right) (left-whole s part, tt)) left)

branch-within : (l : Tree) (e : Entry) (r : Tree) (ls rs : List Tree) → Each (IsWithin l) ls → Each (IsWithin r) rs
    → Each (IsWithin (Branch l e r)) (ls ++ (rs ++ Branch l e r ∷ []))
branch-within l e r ls rs left right =
    let whole : Tree = Branch l e r in
    Each-append (IsWithin whole) ls (rs ++ whole ∷ []) (Each-map (IsWithin l) (IsWithin whole) ls
    (λ t has f there. In-left f (entries l) (e ∷ entries r) (has f there)) left)
    (Each-append (IsWithin whole) rs (whole ∷ []) (Each-map (IsWithin r) (IsWithin whole) rs
    (λ t has f there. In-right f (entries l) (e ∷ entries r) (inr (has f there))) right) ((λ f there. there), tt))

module _ (dig : List ℕ → List ℕ) (Has : OfPage) (ps : Image) (since : ℕ) where
  side-more : (ts more : List Tree) (s : Side) (t : Tree) → IsSideTree dig Has ps since ts s t → IsSideTree dig Has ps
      since (ts ++ more) s t
  side-more ts more NoTree t is = is
  side-more ts more (New number) t is = (is.0, get-more ts more (number - 1) t is.1)
  side-more ts more (Old page) t is = is

  -- one node more
  more-planted : (before : List Tree) (ns : List NewNode) (ts : List Tree) (n : NewNode) (l r : Tree) → AreNodeTrees dig
      Has ps since before ns ts → IsSideTree dig Has ps since (before ++ ts) n.left l → IsSideTree dig Has ps since
      (before ++ ts) n.right r
      → IsMarkOf dig Has ps since n.page (Branch l n.entry r) → IsRising (entries (Branch l n.entry r))
      → AreNodeTrees dig Has ps since before (ns ++ n ∷ []) (ts ++ Branch l n.entry r ∷ [])
  more-planted before [] [] n l r are left right marked rising =
      let same = append-nil before in (
        (
          l,
          r,
          subst (λ (xs : List Tree). IsSideTree dig Has ps since xs n.left l) same left,
          subst (λ (xs : List Tree). IsSideTree dig Has ps since xs n.right r) same right,
          refl,
          marked,
          rising,
        ),
        tt,
      )
  more-planted before [] (t ∷ ts) n l r are left right marked rising = absurd are
  more-planted before (m ∷ ns) [] n l r are left right marked rising = absurd are
  more-planted before (m ∷ ns) (t ∷ ts) n l r are left right marked rising =
      let same = sym (append_assoc before (t ∷ []) ts) in (
        are.0,
        more-planted (before ++ t ∷ []) ns ts n l r are.1 (subst (λ (xs : List Tree). IsSideTree dig Has ps since xs
            n.left l) same left) (subst (λ (xs : List Tree). IsSideTree dig Has ps since xs n.right r) same right)
            marked rising,
      )

  planted-count : (before : List Tree) (ns : List NewNode) (ts : List Tree) → AreNodeTrees dig Has ps since before ns ts
      → length ns ≡ length ts
  planted-count before [] [] are = refl
  planted-count before [] (t ∷ ts) are = absurd are
  planted-count before (n ∷ ns) [] are = absurd are
  planted-count before (n ∷ ns) (t ∷ ts) are = ap suc (planted-count (before ++ t ∷ []) ns ts are.1)

  -- what is listed behind nodes with these trees is this tree
  pub record Plants (ts : List Tree) (found : Found Listed) (t : Tree) : Type 0 where
    pub all : Listed
    pub more : List Tree
    pub found_is : found ≡ Is all
    pub are : AreNodeTrees dig Has ps since [] all.nodes (ts ++ more)
    pub side : IsSideTree dig Has ps since (ts ++ more) all.side t
    pub within : Each (IsWithin t) more
    pub parts : Each (IsPart t) more
    pub apart : Apart more

  same-found : (ts : List Tree) (found other : Found Listed) (t : Tree) → found ≡ other → Plants ts other t
      → Plants ts found t
  same-found ts found other t e p =
      record {
        all = p.all;
        more = p.more;
        found_is = e ∙ p.found_is;
        are = p.are;
        side = p.side;
        within = p.within;
        parts = p.parts;
        apart = p.apart;
      }

  none-more : (ts : List Tree) (nodes : List NewNode) (s : Side) (t : Tree) → AreNodeTrees dig Has ps since [] nodes ts
      → IsSideTree dig Has ps since ts s t → Plants ts (Is (record { nodes = nodes; side = s })) t
  none-more ts nodes s t are side = record {
    all = record { nodes = nodes; side = s };
    more = [];
    found_is = refl;
    are = subst (AreNodeTrees dig Has ps since [] nodes) (sym (append-nil ts)) are;
    side = subst (λ (xs : List Tree). IsSideTree dig Has ps since xs s t) (sym (append-nil ts)) side;
    within = tt;
    parts = tt;
    apart = tt;
  }

  -- a node over its two sides
  node-plants : (ts : List Tree) (page : ℕ) (e : Entry) (l r : Tree) (one : Found Listed) (two : Listed → Found Listed)
      → (p : Plants ts one l) → Plants (ts ++ p.more) (two p.all) r
      → IsMarkOf dig Has ps since page (Branch l e r) → IsRising (entries (Branch l e r))
      → Plants ts (one >>= (λ left. two left >>= (λ right. Is (node_behind (Some e) page left.side right))))
      (Branch l e r)
  node-plants ts page e l r one two p q marked rising =
      let n : NewNode = record { left = p.all.side; entry = e; right = q.all.side; page = page } in
      let trees : List Tree = (ts ++ p.more) ++ q.more in
      let whole : trees ++ Branch l e r ∷ [] ≡ ts ++ (p.more ++ (q.more ++ Branch l e r ∷ [])) =
      append_assoc (ts ++ p.more) q.more (Branch l e r ∷ []) ∙ append_assoc ts p.more (q.more ++ Branch l e r ∷ []) in
      let planted = more-planted [] q.all.nodes trees n l r q.are (side-more (ts ++ p.more) q.more p.all.side l p.side)
      q.side marked rising in
      let count : length q.all.nodes ≡ length trees = planted-count [] q.all.nodes trees q.are in
      let number : length q.all.nodes + 1 - 1 ≡ length trees = omega (arith, count) in
      record {
        all = node_behind (Some e) page p.all.side q.all;
        more = p.more ++ (q.more ++ Branch l e r ∷ []);
        found_is =
            is_on one (λ left. two left >>= (λ right. Is (node_behind (Some e) page left.side right))) p.all p.found_is
            ∙ is_on (two p.all) (λ right. Is (node_behind (Some e) page p.all.side right)) q.all q.found_is;
        are = subst (AreNodeTrees dig Has ps since [] (q.all.nodes ++ n ∷ [])) whole planted;
        side = (
          omega arith,
          ap (λ (xs : List Tree). slice_get xs (length q.all.nodes + 1 - 1)) (sym whole)
              ∙ ap (slice_get (trees ++ Branch l e r ∷ [])) number ∙ get-last trees (Branch l e r),
        );
        within = branch-within l e r p.more q.more p.within q.within;
        parts = branch-parts l e r p.more q.more p.parts q.parts;
        apart = branch-apart l e r p.more q.more rising p.parts q.parts p.apart q.apart;
      }

  -- ---- through a page

  abbrev pub PlantsAt : ListsAt → (es : List Entry) → List Tree → Type 0
  PlantsAt child es us =
      (low high : Option Entry) (place : ℕ) (nodes : List NewNode) (ts : List Tree) → place ≤ length es
      → AreNodeTrees dig Has ps since [] nodes ts → IsRising (entries (slice_index_or us place NoEntry))
      → Each (LiesBetween low high) (entries (slice_index_or us place NoEntry)) → Plants ts (child low high place nodes)
      (slice_index_or us place NoEntry)

  both : (low high : Option Entry) (e : Entry) (xs : List Entry) → Each (LiesBetween low high) xs
      → Each (λ f. KeyBelow (key_of f) (key_of e)) xs → Each (LiesBetween low (Some e)) xs
  both low high e [] lie under = tt
  both low high e (x ∷ xs) lie under =
      ((lie.0.0, lt-below (key_of x) (key_of e) under.0), both low high e xs lie.1 under.1)

  other : (low high : Option Entry) (e : Entry) (xs : List Entry) → Each (LiesBetween low high) xs
      → Each (λ f. KeyBelow (key_of e) (key_of f)) xs → Each (LiesBetween (Some e) high) xs
  other low high e [] lie over = tt
  other low high e (x ∷ xs) lie over =
      ((lt-below (key_of e) (key_of x) over.0, lie.0.1), other low high e xs lie.1 over.1)

  module _ (child : ListsAt) (es : List Entry) (us : List Tree) (plants : PlantsAt child es us) where
    pub shape-plants : (page : ℕ) (low high : Option Entry) (base : ℕ) (s : Shape) (nodes : List NewNode)
        (ts : List Tree) → base + size s ≤ length es → AreNodeTrees dig Has ps since [] nodes ts
        → IsRising (entries (tree_at es us base s)) → Each (LiesBetween low high) (entries (tree_at es us base s))
        → IsMarkOf dig Has ps since page (tree_at es us base s)
        → Plants ts (listed_at child es page low high base s nodes) (tree_at es us base s)
    unfolding tree_at
    shape-plants page low high base Empty nodes ts room are rising lie marked =
        same-found ts _ _ (slice_index_or us base NoEntry) (listed-empty child es page low high base nodes Empty refl)
        (plants low high base nodes ts (omega (arith, room)) are rising lie)
    shape-plants page low high base (Node red l r) nodes ts room are rising lie marked =
        let here = get-some es us es (base + size l) (omega (arith, room)) in
        let e : Entry = here.0 in
        let left : Tree = tree_at es us base l in
        let right : Tree = tree_at es us (base + size l + 1) r in
        let is : branch (slice_get es (base + size l)) left right ≡ Branch left e right =
        ap (λ (o : Option Entry). branch o left right) here.1 in
        let rises : IsRising (entries left ++ e ∷ entries right) = subst (λ (t : Tree). IsRising (entries t)) is
        rising in
        let lies : Each (LiesBetween low high) (entries left ++ e ∷ entries right) =
        subst (λ (t : Tree). Each (LiesBetween low high) (entries t)) is lie in
        let parts = cut (entries left) e (entries right) rises in
        let sides = Each-parts (LiesBetween low high) (entries left) (e ∷ entries right) lies in
        let one = shape-plants 0 low (Some e) base l nodes ts (omega (arith, room)) are parts.front_rises
        (both low high e (entries left) sides.0 parts.lower) (inl refl) in
        let two = shape-plants 0 (Some e) high (base + size l + 1) r one.all.nodes (ts ++ one.more)
        (omega (arith, room)) one.are parts.back_rises (other low high e (entries right) sides.1.1 parts.upper)
        (inl refl) in
        let there : slice_get es (base + size l + 1 - 1) ≡ Some e =
        ap (slice_get es) (let n : base + size l + 1 - 1 ≡ base + size l = omega arith in n) ∙ here.1 in
        subst (Plants ts (listed_at child es page low high base (Node red l r) nodes)) (sym is)
        (same-found ts _ _ (Branch left e right) (listed-node child es page low high base nodes red l r
        (base + size l + 1) e refl there (Node red l r) refl)
        (node-plants ts page e left right (listed_at child es 0 low (Some e) base l nodes) (λ left. listed_at child es 0
        (Some e) high (base + size l + 1) r left.nodes) one two (subst (IsMarkOf dig Has ps since page) is marked)
        rises))

  -- ---- level by level

  pub level-plants : (level page : ℕ) (p : TreePage) (us : List Tree) → IsPageAt dig ps page p → p.level ≡ level
      → AreTrees (IsTreeBelow dig Has ps level) p.children us → PlantsAt (child_listed dig ps since level p) p.entries
      us
  unfolding IsTreeBelow
  level-plants zero page p us there is are = λ low high place nodes ts room planted rising lie.
      let c = tree-at (IsTreeBelow dig Has ps zero) p.children us are place
      (omega (arith, room, there.may_stand.node.places)) in
      same-found ts _ _ (slice_index_or us place NoEntry) (listed-leaf dig ps since p low high place nodes zero refl)
      (none-more ts nodes NoTree (slice_index_or us place NoEntry) planted c.is)
  level-plants (suc level) page p us there is are = λ low high place nodes ts room planted rising lie.
      let c = tree-at (IsTreeBelow dig Has ps (suc level)) p.children us are place
      (omega (arith, room, there.may_stand.node.places)) in
      let b = c.is.1 in
      let q = b.node in
      let number : child_page p place ≡ c.child.page = child_page-get p place c.child c.there in
      let cases : (child_page p place < since) ⊎ (since ≤ child_page p place) = grind arith in
      let rises = subst (λ (t : Tree). IsRising (entries t)) b.tree_is rising in
      let lies = subst (λ (t : Tree). Each (LiesBetween low high) (entries t)) b.tree_is lie in
      elim cases [
        | inl old ↦
            same-found ts _ _ (slice_index_or us place NoEntry) (listed-old dig ps since p low high place nodes
            (suc level) level refl (is-old (child_page p place) since (omega (arith, number, b.at.low)) old))
            (none-more ts nodes (Old (child_page p place)) (slice_index_or us place NoEntry) planted (
              omega (arith, number, b.at.low),
              old,
              (
                level,
                12,
                subst (λ (n : ℕ). IsTreePage dig Has ps (IsTreeBelow dig Has ps level) level 12 n
                    (slice_index_or us place NoEntry)) (sym number) b,
              ),
            ))
        | inr new ↦
            let fit = fits-true level low high q b.level_is b.least_keys (own_between dig ps any_ask level low high
            c.child.page q b.trees b.at b.level_is (trees-map (IsTreeBelow dig Has ps level)
            (IsTreeBelow dig any_page ps level) (below-any dig Has ps level) q.children b.trees b.are_trees) rises lies)
            in
            let found : child_in dig ps level low high (child_page p place) ≡ Is q = ap (child_in dig ps level low high)
            number ∙ child-is dig ps level low high c.child.page q b.at fit in
            let inner = shape-plants (child_listed dig ps since level q) q.entries b.trees
            (level-plants level c.child.page q b.trees b.at b.level_is b.are_trees) (child_page p place) low high 0
            q.shape nodes ts
            (omega (arith, b.at.may_stand.node.sized)) planted rises lies
            (inr (
              new,
              (
                level,
                12,
                subst (λ (n : ℕ). IsTreePage dig Has ps (IsTreeBelow dig Has ps level) level 12 n (page_tree q b.trees))
                    (sym number) (subst (IsTreePage dig Has ps (IsTreeBelow dig Has ps level) level 12 c.child.page)
                    b.tree_is b),
              ),
            )) in
            subst (Plants ts (child_listed dig ps since (suc level) p low high place nodes)) (sym b.tree_is)
            (same-found ts _ _ (page_tree q b.trees)
            (listed-on dig ps since p low high place nodes (suc level) level refl (is-new (child_page p place) since
            new) ∙ is_on (child_in dig ps level low high (child_page p place))
            (below_found dig ps since p low high place nodes level) q found) inner)
      ]

-- the node of a page's root is the last one
from_last : {X Y : Type 0} (one : Found X) (f : X → Found Y) (y : Y) → (one >>= f) ≡ Is y → (x : X) × (f x ≡ Is y)
from_last (Is x) f y e = (x, e)
from_last (Bad page) f y e = cc

abbrev pub IsLastAt : (page : ℕ) → List NewNode → Type 0
IsLastAt page nodes = (n : NewNode) × (slice_get nodes (length nodes - 1) ≡ Some n) × (n.page ≡ page)

abbrev IsLastNode : (page : ℕ) → Listed → Type 0
IsLastNode page all = (0 < length all.nodes) × (all.side ≡ New (length all.nodes)) × IsLastAt page all.nodes

root-last : (child : ListsAt) (es : List Entry) (page : ℕ) (low high : Option Entry) (s : Shape) (all : Listed)
    → 0 < size s → size s ≤ length es → listed_at child es page low high 0 s [] ≡ Is all → IsLastNode page all
root-last child es page low high Empty all some room found = absurd (omega (arith, some))
root-last child es page low high (Node red l r) all some room found =
    let here = get-some es [] es (0 + size l) (omega (arith, room)) in
    let e : Entry = here.0 in
    let there : slice_get es (0 + size l + 1 - 1) ≡ Some e =
    ap (slice_get es) (let n : 0 + size l + 1 - 1 ≡ 0 + size l = omega arith in n) ∙ here.1 in
    let whole = sym (listed-node child es page low high 0 [] red l r (0 + size l + 1) e refl there (Node red l r) refl)
    ∙ found in
    let left = from_last (listed_at child es 0 low (Some e) 0 l []) (λ (left : Listed). listed_at child es 0 (Some e)
    high (0 + size l + 1) r left.nodes >>= (λ (right : Listed). Is (node_behind (Some e) page left.side right))) all
    whole in
    let right = from_last (listed_at child es 0 (Some e) high (0 + size l + 1) r left.0.nodes)
    (λ (right : Listed). Is (node_behind (Some e) page left.0.side right)) all left.1 in
    let n : NewNode = record { left = left.0.side; entry = e; right = right.0.side; page = page } in
    let count : length (right.0.nodes ++ n ∷ []) ≡ length right.0.nodes + 1 =
    omega (arith, length-append right.0.nodes (n ∷ [])) in
    let end : length (right.0.nodes ++ n ∷ []) - 1 ≡ length right.0.nodes = omega (arith, count) in
    subst (IsLastNode page) (same_found (node_behind (Some e) page left.0.side right.0) all right.1) (
      omega (arith, count),
      ap (λ (k : ℕ). New k) (sym count),
      (n, ap (slice_get (right.0.nodes ++ n ∷ [])) end ∙ get-last right.0.nodes n, refl),
    )

side-is : (dig : List ℕ → List ℕ) (Has : OfPage) (ps : Image) (since : ℕ) (ts : List Tree) (s : Side) (number : ℕ)
    (t : Tree) → s ≡ New number → IsSideTree dig Has ps since ts s t → slice_get ts (number - 1) ≡ Some t
side-is dig Has ps since ts s number t e is = let own = subst (λ (x : Side). IsSideTree dig Has ps since ts x t) e is in
    own.1

-- of a root
pub record RootPlants (dig : List ℕ → List ℕ) (Has : OfPage) (ps : Image) (since page : ℕ)
    (found : Found (List NewNode)) (t : Tree) : Type 0 where
  pub nodes : List NewNode
  pub trees : List Tree
  pub found_is : found ≡ Is nodes
  pub are : AreNodeTrees dig Has ps since [] nodes trees
  pub last : (0 < length nodes) × (slice_get trees (length nodes - 1) ≡ Some t)
  pub mark : IsLastAt page nodes
  pub within : Each (IsWithin t) trees
  pub apart : Apart trees

pub root-plants : (dig : List ℕ → List ℕ) (Has : OfPage) (ps : Image) (root : Root) (t : Tree) (since : ℕ)
    → StandsWith dig Has ps root t → root.page ≢ 0 → since ≤ root.page
    → RootPlants dig Has ps since root.page (listed dig ps since root) t
root-plants dig Has ps root t since stands some new = by stands.tree
  where
    older : ((root.page == 0) || is_old root.page since) ≡ false
    older = λ i. ne_eqb root.page 0 some i || is-new root.page since new i

    by : IsRootTree dig Has ps root.page t → RootPlants dig Has ps since root.page (listed dig ps since root) t
    by (inl none) = absurd (some none.0)
    by (inr (level, is)) =
        let p = is.node in
        let node = is.at.may_stand.node in
        let rises = subst (λ (x : Tree). IsRising (entries x)) is.tree_is stands.rising in
        let found : node_in dig ps root.page ≡ Is p = root-is dig ps root.page p is.at in
        let plants = shape-plants dig Has ps since (child_listed dig ps since level p) p.entries is.trees
        (level-plants dig Has ps since level root.page p is.trees is.at is.level_is is.are_trees)
        root.page None None 0 p.shape [] [] (omega (arith, node.sized)) tt rises
        (all_between (entries (page_tree p is.trees)))
        (inr (
          new,
          (level, 1, subst (IsTreePage dig Has ps (IsTreeBelow dig Has ps level) level 1 root.page) is.tree_is is),
        )) in
        let on : listed dig ps since root ≡ Is plants.all.nodes =
        listed-root dig ps since root older
        ∙ is_on (node_in dig ps root.page) (λ p. listed_at (child_listed dig ps since p.level p) p.entries root.page
        None None 0 p.shape [] >>= (λ (all : Listed). Is all.nodes)) p found
        ∙ ap (λ (n : ℕ). listed_at (child_listed dig ps since n p) p.entries root.page None None 0 p.shape []
        >>= (λ (all : Listed). Is all.nodes)) is.level_is
        ∙ is_on (listed_at (child_listed dig ps since level p) p.entries root.page None None 0 p.shape [])
        (λ (all : Listed). Is all.nodes) plants.all plants.found_is in
        let end = root-last (child_listed dig ps since level p) p.entries root.page None None p.shape plants.all
        (omega (arith, node.sized, node.some)) (omega (arith, node.sized)) plants.found_is in
        record {
          nodes = plants.all.nodes;
          trees = plants.more;
          found_is = on;
          are = plants.are;
          last = (
            end.0,
            side-is dig Has ps since plants.more plants.all.side (length plants.all.nodes) t end.1
                (subst (IsSideTree dig Has ps since plants.more plants.all.side) (sym is.tree_is) plants.side),
          );
          mark = end.2;
          within = subst (λ (x : Tree). Each (IsWithin x) plants.more) (sym is.tree_is) plants.within;
          apart = plants.apart;
        }

-- ---- no page marks two nodes

some-tree : (x t : Tree) → Some x ≡ Some t → x ≡ t
some-tree x t e = cc

not-there : (x : Tree) (xs : List Tree) (k : ℕ) (u : Tree) → Each (λ y. x ≢ y) xs → slice_get xs k ≡ Some u → x ≢ u
not-there x [] k u all is = absurd (none-some u is)
not-there x (y ∷ ys) zero u all is = λ same. all.0 (same ∙ sym (some-tree y u is))
not-there x (y ∷ ys) (suc k) u all is = not-there x ys k u all.1 is

apart-index : (ts : List Tree) → Apart ts → (i j : ℕ) (t : Tree) → slice_get ts i ≡ Some t → slice_get ts j ≡ Some t
    → i ≡ j
apart-index [] apart i j t a b = absurd (none-some t a)
apart-index (x ∷ ts) apart zero zero t a b = refl
apart-index (x ∷ ts) apart zero (suc j) t a b = absurd (not-there x ts j t apart.0 b (some-tree x t a))
apart-index (x ∷ ts) apart (suc i) zero t a b = absurd (not-there x ts i t apart.0 a (some-tree x t b))
apart-index (x ∷ ts) apart (suc i) (suc j) t a b = ap suc (apart-index ts apart.1 i j t a b)

module _ (dig : List ℕ → List ℕ) (Has : OfPage) (ps : Image) (since : ℕ) where
  mark-at : (before : List Tree) (ns : List NewNode) (ts : List Tree) → AreNodeTrees dig Has ps since before ns ts
      → (i : ℕ) (n : NewNode) → slice_get ns i ≡ Some n
      → (t : Tree) × (slice_get ts i ≡ Some t) × IsMarkOf dig Has ps since n.page t
  mark-at before [] ts are i n is = absurd (none-some n is)
  mark-at before (m ∷ ns) [] are i n is = absurd are
  mark-at before (m ∷ ns) (t ∷ ts) are zero n is =
      let same : m ≡ n = cc in (t, refl, subst (λ (x : NewNode). IsMarkOf dig Has ps since x.page t) same are.0.5)
  mark-at before (m ∷ ns) (t ∷ ts) are (suc i) n is = mark-at (before ++ t ∷ []) ns ts are.1 i n is

  no-least : (level least page : ℕ) (t : Tree) → IsTreePage dig Has ps (IsTreeBelow dig Has ps level) level least page t
      → IsTreePage dig Has ps (IsTreeBelow dig Has ps level) level 0 page t
  no-least level least page t is = tree_page-as is (omega arith) is.at is.are_trees is.has

  tree-once : (page : ℕ) (s t : Tree) → page ≢ 0 → IsMarkOf dig Has ps since page s → IsMarkOf dig Has ps since page t
      → s ≡ t
  tree-once page s t some (inl none) b = absurd (some none)
  tree-once page s t some (inr a) (inl none) = absurd (some none)
  tree-once page s t some (inr (new, (level, least, a))) (inr (more, (other, few, b))) =
      let same : other ≡ level = sym b.level_is ∙ ap (λ (p : TreePage). p.level)
      (one_page dig ps page b.node a.node b.at a.at) ∙ a.level_is in
      tree_page-once dig Has ps (IsTreeBelow dig Has ps level) (below-once dig Has ps level) level 0 page s t
      (no-least level least page s a)
      (subst (λ (n : ℕ). IsTreePage dig Has ps (IsTreeBelow dig Has ps n) n 0 page t) same
      (no-least other few page t b))

  pub marks-apart : (ns : List NewNode) (ts : List Tree) → AreNodeTrees dig Has ps since [] ns ts → Apart ts
      → (i j : ℕ) (n m : NewNode) → slice_get ns i ≡ Some n → slice_get ns j ≡ Some m → n.page ≡ m.page → n.page ≢ 0
      → i ≡ j
  marks-apart ns ts are apart i j n m a b same some =
      let one = mark-at [] ns ts are i n a in
      let two = mark-at [] ns ts are j m b in
      let tree : two.0 ≡ one.0 = tree-once n.page two.0 one.0 some (subst (λ (k : ℕ). IsMarkOf dig Has ps since k two.0)
      (sym same) two.2) one.2 in
      apart-index ts apart i j one.0 one.1 (two.1 ∙ ap (λ (x : Tree). Some x) tree)
