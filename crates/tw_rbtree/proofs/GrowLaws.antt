-- What becomes of the pages on a way by an entry more.
use Rattle.std.proofs.Common.{◌≡◌, ◌≢◌, ℕ, suc, zero, ◌+◌, ◌<◌, ◌≤◌, List, [], ◌∷◌, ◌++◌, length, Bool, true, false}
use Rattle.std.proofs.Common.{refl, ap, sym, ◌∙◌, subst, arith, slice_get}
use Rattle.std.specs.Prelude.{◌==◌, ◌&&◌, ◌-◌, Option, Some, map, slice_index_or, if◌then◌else◌}
use Rattle.tw_base.specs.declared.history.thread.Entry.{Entry}
use Rattle.tw_base.specs.declared.history.thread.Key.{Key}
use Rattle.tw_base.specs.declared.history.tree_proof.Ask.{Ask}
use Rattle.tw_base.specs.declared.history.tree_proof.Ask.TheVariants.{Absent}
use Rattle.tw_base.specs.history.Asking.{with_entry}
use Rattle.tw_base.specs.history.Entries.{key_of}
use Rattle.tw_base.specs.history.Limits.{IsEntryInRange}
use Rattle.tw_base.specs.kinds.Lists.{Each}
use Rattle.tw_base.specs.kinds.Texts.{empty_tree_text}
use Rattle.tw_base.specs.history.Tree.{Tree, IsRising, entries}
use Rattle.tw_base.specs.history.Tree.Tree.{Empty}
use Rattle.tw_base.proofs.lemmas.kinds.ListLemmas.{Each-parts}
use Rattle.tw_disk.specs.Found.{Found, when, ◌>>=◌}
use Rattle.tw_disk.specs.Found.Found.{Is, Bad}
use Rattle.tw_disk.specs.Image.{Image}
use Rattle.tw_disk.proofs.FoundLaws.{same_found}
use Rattle.tw_rbnode.specs.declared.child.Child.{Child as Link}
use Rattle.tw_rbnode.specs.declared.limits.TheConstants.{MOST_KEYS}
use Rattle.tw_rbnode.specs.declared.node.Added.{Added}
use Rattle.tw_rbnode.specs.declared.node.Added.TheVariants.{One as OnePage, Two as TwoPages}
use Rattle.tw_rbnode.specs.declared.node.Found.{Found as Spot}
use Rattle.tw_rbnode.specs.declared.node.Found.TheVariants.{At, Between}
use Rattle.tw_rbnode.specs.Answers.{IsThereAsFound}
use Rattle.tw_rbnode.specs.Children.{IsChildAt}
use Rattle.tw_rbnode.specs.Page.{IsBetween, IsNode, TreePage}
use Rattle.tw_rbnode.specs.Trees.{woven}
use Rattle.tw_rbnode.proofs.Rising.{Each-with}
use Rattle.tw_rbnode.proofs.TreeLists.{page-list}
use Rattle.tw_base.proofs.lemmas.history.Asked.{cut}
use Rattle.tw_rbtree.specs.declared.descending.Down.{Down}
use Rattle.tw_rbtree.specs.declared.descending.Down.TheVariants.{Met, Leaf, Child}
use Rattle.tw_rbtree.specs.declared.inserting.Grown.{Grown}
use Rattle.tw_rbtree.specs.declared.inserting.Grown.TheVariants.{One, Two}
use Rattle.tw_rbtree.specs.declared.seeking.Sought.{Sought}
use Rattle.tw_rbtree.specs.Downs.{IsDown, IsSoughtIn}
use Rattle.tw_rbtree.specs.Growing.{GrownLists, IsChildTree, IsGrownIn, IsStagedAs, IsWith, LiesIn, MayGoInto}
use Rattle.tw_rbtree.specs.Growing.{SidesList, is_full, is_two, leaf_of}
use Rattle.tw_rbtree.specs.Reading.{child_in, fits, is_above, is_below, lie_between, node_in}
use Rattle.tw_rbtree.specs.Standing.{AreTrees, IsTreeBelow, IsTreePage, OfPage}
use Rattle.tw_rbtree.specs.Ways.{child_page, down_at, down_in, seek}
use Rattle.tw_rbtree.proofs.Keeping.{below-kept, tree_page-as, trees-map}
use Rattle.tw_rbtree.proofs.WayLaws.{child_page-get}
use Rattle.tw_rbtree.proofs.Adding.{Goes, all-lie, entry-lies, goes-between}
use Rattle.tw_rbtree.proofs.PageLaws.{root-is}
use Rattle.tw_rbtree.proofs.Standings.{list-at, map-count, tree-at, trees-count}
use Rattle.tw_rbtree.proofs.Weaving.{LiesBetween}

full-is : (n : ℕ) → n ≡ MOST_KEYS → (n == MOST_KEYS) ≡ true
full-is n e = grind arith

full-not : (n : ℕ) → n < MOST_KEYS → (n == MOST_KEYS) ≡ false
full-not n e = grind arith

-- two exactly where all are full
pub two-on : (dig : List ℕ → List ℕ) (number place : ℕ) (p : TreePage) (below grown : Grown) (added : Added)
    → IsWith p place below added → IsStagedAs dig number added grown → is_two grown ≡ (is_two below && is_full p)
two-on dig number place p (One c) (One d) (OnePage new) with_it staged = refl
two-on dig number place p (One c) (Two l m r) (OnePage new) with_it staged = absurd staged
two-on dig number place p (One c) grown (TwoPages f m s) with_it staged = absurd with_it
two-on dig number place p (Two left middle right) (One d) (OnePage new) with_it staged =
    sym (full-not (length p.entries) with_it.fewer)
two-on dig number place p (Two left middle right) (Two l m r) (OnePage new) with_it staged = absurd staged
two-on dig number place p (Two left middle right) (One d) (TwoPages f m s) with_it staged = absurd staged
two-on dig number place p (Two left middle right) (Two l n r) (TwoPages f m s) with_it staged =
    sym (full-is (length p.entries) with_it.full)

-- a child of a page above level 0
pub child-above : (dig : List ℕ → List ℕ) (level : ℕ) (c : Link) → level ≢ 0 → 0 < c.page → IsChildAt dig level c
child-above dig zero c some page = absurd (some refl)
child-above dig (suc level) c some page = page

each-middle : (P : Entry → Type 0) (xs : List Entry) (m : Entry) (ys : List Entry) → Each P ((xs ++ m ∷ []) ++ ys) → P m
each-middle P xs m ys all = let front = Each-parts P (xs ++ m ∷ []) ys all in let last = Each-parts P xs (m ∷ [])
    front.0 in last.1.0

-- what is staged is possible between the entries of the page and the new one
pub grown-in : (dig : List ℕ → List ℕ) (number place : ℕ) (p : TreePage) (low high : Option Entry) (below grown : Grown)
    (added : Added) → 0 < number → IsNode p → lie_between low high p.entries ≡ true
    → LiesIn low high below → IsWith p place below added → IsStagedAs dig number added grown → IsGrownIn low high grown
grown-in dig number place p low high below (One d) (OnePage new) some node lie own with_it staged =
    omega (arith, some, staged.page_is)
grown-in dig number place p low high below (Two l m r) (OnePage new) some node lie own with_it staged = absurd staged
grown-in dig number place p low high below (One d) (TwoPages f m s) some node lie own with_it staged = absurd staged
grown-in dig number place p low high (One c) (Two l n r) (TwoPages f m s) some node lie own with_it staged =
    absurd with_it
grown-in dig number place p low high (Two left middle right) (Two l n r) (TwoPages f m s) some node lie own with_it
    staged =
    let all_ranges = subst (Each IsEntryInRange) (sym with_it.entries) (Each-with IsEntryInRange p.entries place
    (middle ∷ []) node.ranges (own.0, tt)) in
    let all_lie = subst (Each (LiesBetween low high)) (sym with_it.entries) (Each-with (LiesBetween low high) p.entries
    place (middle ∷ []) (all-lie low high p.entries lie) ((own.1, own.2), tt)) in
    let range = subst IsEntryInRange staged.1 (each-middle IsEntryInRange f.entries m s.entries all_ranges) in
    let lies = subst (LiesBetween low high) staged.1 (each-middle (LiesBetween low high) f.entries m s.entries all_lie)
    in
    (omega (arith, some, staged.0.page_is), omega (arith, some, staged.2.page_is), range, lies.0, lies.1)

-- ---- where the pages stand for trees

rises-at : (k : ℕ) (cs : List (List Entry)) (es : List Entry) → length cs ≡ length es + 1 → IsRising (woven cs es)
    → IsRising (slice_index_or cs k [])
rises-at k [] es count rising = tt
rises-at zero (c ∷ cs) [] count rising = rising
rises-at (suc k) (c ∷ []) [] count rising = tt
rises-at (suc k) (c ∷ d ∷ cs) [] count rising = absurd (omega (arith, count))
rises-at zero (c ∷ cs) (e ∷ es) count rising = (cut c e (woven cs es) rising).front_rises
rises-at (suc k) (c ∷ cs) (e ∷ es) count rising = rises-at k cs es (omega (arith, count))
    (cut c e (woven cs es) rising).back_rises

-- a page of a tree with fewer keys asked for
pub less-keys : (dig : List ℕ → List ℕ) (Has : OfPage) (ps : Image) (level least : ℕ) (c : Link) (t : Tree) → 12 ≤ least
    → IsChildTree dig Has ps level least c t → IsTreeBelow dig Has ps (suc level) c t
unfolding IsTreeBelow
less-keys dig Has ps level least c t enough is =
    (is.0, tree_page-as is.1 (omega (arith, enough, is.1.least_keys)) is.1.at is.1.are_trees is.1.has)

pub sides-of : (dig : List ℕ → List ℕ) (Has : OfPage) (ps : Image) (level least : ℕ) (es : List Entry) (g : Grown)
    → 12 ≤ least → GrownLists dig Has ps level least es g → SidesList (IsTreeBelow dig Has ps (suc level)) es g
sides-of dig Has ps level least es (One c) enough lists =
    (lists.0, less-keys dig Has ps level least c lists.0 enough lists.1, lists.2)
sides-of dig Has ps level least es (Two left middle right) enough lists = (
  lists.0,
  lists.1,
  less-keys dig Has ps level 12 left lists.0 (omega arith) lists.2,
  less-keys dig Has ps level 12 right lists.1 (omega arith) lists.3,
  lists.4,
)

pub leaf-below : (dig : List ℕ → List ℕ) (Has : OfPage) (ps : Image) (level : ℕ) (c : Link) → level ≡ 0
    → IsTreeBelow dig Has ps level c Empty
unfolding IsTreeBelow
leaf-below dig Has ps zero c z = refl
leaf-below dig Has ps (suc level) c z = absurd (omega (arith, z))

pub leaf-tree : (dig : List ℕ → List ℕ) (Has : OfPage) (ps : Image) (level : ℕ) (c : Link) (t : Tree) → level ≡ 0
    → IsTreeBelow dig Has ps level c t → t ≡ Empty
unfolding IsTreeBelow
leaf-tree dig Has ps zero c t z is = is
leaf-tree dig Has ps (suc level) c t z is = absurd (omega (arith, z))

-- a tree below a page above level 0
pub record BelowAt (dig : List ℕ → List ℕ) (Has : OfPage) (ps : Image) (lower : ℕ) (p : TreePage) (ts : List Tree)
    (place : ℕ) : Type 0 where
  pub child : Link
  pub there : slice_get p.children place ≡ Some child
  pub page : IsTreePage dig Has ps (IsTreeBelow dig Has ps lower) lower 12 child.page (slice_index_or ts place Empty)
  pub rising : IsRising (woven (map entries page.trees) page.node.entries)
  pub lists : slice_index_or (map entries ts) place [] ≡ woven (map entries page.trees) page.node.entries

pub below-at : (dig : List ℕ → List ℕ) (Has : OfPage) (ps : Image) (level lower : ℕ) (p : TreePage) (ts : List Tree)
    (place : ℕ) → level ≡ suc lower → length p.children ≡ length p.entries + 1 → place ≤ length p.entries
    → AreTrees (IsTreeBelow dig Has ps level) p.children ts → length (map entries ts) ≡ length p.entries + 1
    → IsRising (woven (map entries ts) p.entries) → BelowAt dig Has ps lower p ts place
unfolding IsTreeBelow
below-at dig Has ps zero lower p ts place deeper places room are count rising = absurd (omega (arith, deeper))
below-at dig Has ps (suc own) lower p ts place deeper places room are count rising =
    let same : own ≡ lower = omega (arith, deeper) in
    let c = tree-at (IsTreeBelow dig Has ps (suc own)) p.children ts are place (omega (arith, places, room)) in
    let page : IsTreePage dig Has ps (IsTreeBelow dig Has ps lower) lower 12 c.child.page
    (slice_index_or ts place Empty) =
    subst (λ (n : ℕ). IsTreePage dig Has ps (IsTreeBelow dig Has ps n) n 12 c.child.page
    (slice_index_or ts place Empty)) same c.is.1 in
    let inner : entries (slice_index_or ts place Empty) ≡ woven (map entries page.trees) page.node.entries =
    ap entries page.tree_is ∙ page-list page.node page.trees page.at.may_stand.node
    (trees-count (IsTreeBelow dig Has ps lower) page.node.children page.trees page.are_trees) in
    let lists : slice_index_or (map entries ts) place [] ≡ woven (map entries page.trees) page.node.entries =
    list-at ts place ∙ inner in
    record {
      child = c.child;
      there = c.there;
      page = page;
      rising = subst IsRising lists (rises-at place (map entries ts) p.entries count rising);
      lists = lists;
    }

-- ---- what goes into a page

module _ (dig : List ℕ → List ℕ) (ask : Ask) (low high : Option Entry) (p : TreePage) (d : Sought)
    (down : IsSoughtIn ask low high p d) (lie : lie_between low high p.entries ≡ true) (place : ℕ)
    (at : d.at ≡ Between place) where
  at_seek : (seek ask 0 low high p.entries).at ≡ Between (0 + place)
  at_seek = ap (λ (s : Sought). s.at) (sym down.here) ∙ at ∙ ap (λ (n : ℕ). Between n) (let same : place ≡ 0 + place =
      omega arith in same)

  pub place-room : place ≤ length p.entries
  place-room = subst (IsThereAsFound p.entries) at down.there

  goes : (m : Entry) → is_above d.low m ≡ true → is_below d.high m ≡ true → Goes low high p.entries place m
  goes m above below =
      goes-between ask m 0 low high p.entries place down.node.rising (all-lie low high p.entries lie) at_seek
      (ap (λ (s : Sought). is_above s.low m) (sym down.here) ∙ above)
      (ap (λ (s : Sought). is_below s.high m) (sym down.here) ∙ below)

  -- an entry between those beside the way stands at its place
  pub stands-between : (m : Entry) → is_above d.low m ≡ true → is_below d.high m ≡ true → IsBetween p.entries place
      (key_of m)
  stands-between m above below = let g = goes m above below in
      record { there = place-room; above = g.before; below = g.behind }

  -- what has grown there may go into the page, and lies between the entries beside it
  pub goes-into : (g : Grown) → p.level ≢ 0 → IsGrownIn d.low d.high g → MayGoInto dig p place g × LiesIn low high g
  goes-into (One c) some grown = ((grown, some, place-room), tt)
  goes-into (Two left middle right) some grown =
      let g = goes middle grown.3 grown.4 in (
        (
          grown.2,
          stands-between middle grown.3 grown.4,
          child-above dig p.level left some grown.0,
          child-above dig p.level right some grown.1,
        ),
        (grown.2, g.above, g.below),
      )

module _ (dig : List ℕ → List ℕ) (low high : Option Entry) (p : TreePage) (entry : Entry) (d : Sought)
    (down : IsSoughtIn (Absent (key_of entry)) low high p d) (lie : lie_between low high p.entries ≡ true) (place : ℕ)
    (at : d.at ≡ Between place)
    (above : is_above low entry ≡ true) (below : is_below high entry ≡ true) where
  -- the entry lies between those beside its way
  pub lies-below : (is_above d.low entry ≡ true) × (is_below d.high entry ≡ true)
  lies-below =
      let lies = entry-lies entry 0 low high p.entries place above below (ap (λ (s : Sought). s.at) (sym down.here)
      ∙ at) in (
        ap (λ (s : Sought). is_above s.low entry) down.here ∙ lies.0,
        ap (λ (s : Sought). is_below s.high entry) down.here ∙ lies.1,
      )

  pub entry-between : IsBetween p.entries place (key_of entry)
  entry-between = stands-between dig (Absent (key_of entry)) low high p d down lie place at entry lies-below.0
      lies-below.1

  pub leaf-goes : p.level ≡ 0 → IsEntryInRange entry → MayGoInto dig p place (leaf_of dig entry) × LiesIn low high
      (leaf_of dig entry)
  leaf-goes leaf range =
      let empty : IsChildAt dig p.level (record { page = 0; label = dig empty_tree_text }) =
      subst (λ (n : ℕ). IsChildAt dig n (record { page = 0; label = dig empty_tree_text })) (sym leaf) (refl, refl) in
      ((range, entry-between, empty, empty), (range, above, below))

module _ (dig : List ℕ → List ℕ) (Has : OfPage) (ps : Image) (p : TreePage) (node : IsNode p) (ts : List Tree)
    (are : AreTrees (IsTreeBelow dig Has ps p.level) p.children ts) (place : ℕ) (room : place ≤ length p.entries) where
  -- an entry more of an empty place
  pub leaf-sides : (entry : Entry) → p.level ≡ 0 → SidesList (IsTreeBelow dig Has ps p.level)
      (with_entry (slice_index_or (map entries ts) place []) entry) (leaf_of dig entry)
  leaf-sides entry leaf =
      let child = tree-at (IsTreeBelow dig Has ps p.level) p.children ts are place (omega (arith, room, node.places)) in
      let none : slice_index_or (map entries ts) place [] ≡ [] = list-at ts place ∙ ap entries
      (leaf-tree dig Has ps p.level child.child (slice_index_or ts place Empty) leaf child.is) in
      let below = leaf-below dig Has ps p.level (record { page = 0; label = dig empty_tree_text }) leaf in
      (Empty, Empty, below, below, ap (λ (xs : List Entry). with_entry xs entry) (sym none))

-- the trees of the child at a place, as it is found
pub record OwnBelow (dig : List ℕ → List ℕ) (Has : OfPage) (ps : Image) (p : TreePage) (ts : List Tree) (place : ℕ)
    (q : TreePage) : Type 0 where
  pub trees : List Tree
  pub are : AreTrees (IsTreeBelow dig Has ps q.level) q.children trees
  pub rising : IsRising (woven (map entries trees) q.entries)
  pub lists : slice_index_or (map entries ts) place [] ≡ woven (map entries trees) q.entries
  pub enough : 12 ≤ length q.entries

module _ (dig : List ℕ → List ℕ) (Has : OfPage) (ps : Image) (p : TreePage) (node : IsNode p) (ts : List Tree)
    (are : AreTrees (IsTreeBelow dig Has ps p.level) p.children ts)
    (rising : IsRising (woven (map entries ts) p.entries)) (place : ℕ)
    (room : place ≤ length p.entries) (q : TreePage) (lower : q.level + 1 ≡ p.level) where
  pub own-below : node_in dig ps (child_page p place) ≡ Is q → OwnBelow dig Has ps p ts place q
  own-below found =
      let count : length (map entries ts) ≡ length p.entries + 1 = map-count entries ts ∙ trees-count
      (IsTreeBelow dig Has ps p.level) p.children ts are ∙ node.places in
      let b = below-at dig Has ps p.level q.level p ts place (omega (arith, lower)) node.places room are count rising in
      let page : child_page p place ≡ b.child.page = child_page-get p place b.child b.there in
      let same : b.page.node ≡ q = same_found b.page.node q
      (sym (ap (node_in dig ps) page ∙ root-is dig ps b.child.page b.page.node b.page.at) ∙ found) in
      record {
        trees = b.page.trees;
        are = subst (λ (r : TreePage). AreTrees (IsTreeBelow dig Has ps q.level) r.children b.page.trees) same
            b.page.are_trees;
        rising = subst (λ (r : TreePage). IsRising (woven (map entries b.page.trees) r.entries)) same b.rising;
        lists = b.lists ∙ ap (λ (r : TreePage). woven (map entries b.page.trees) r.entries) same;
        enough = omega (arith, b.page.least_keys, ap (λ (r : TreePage). length r.entries) same);
      }

  -- what the child has become, at its place
  pub sides-up : (now : Image) (entry : Entry) (own : OwnBelow dig Has ps p ts place q) (g : Grown)
      → GrownLists dig Has now q.level (length q.entries) (with_entry (woven (map entries own.trees) q.entries) entry) g
      → SidesList (IsTreeBelow dig Has now p.level) (with_entry (slice_index_or (map entries ts) place []) entry) g
  sides-up now entry own g lists =
      let up : suc q.level ≡ p.level = omega (arith, lower) in
      subst (λ (es : List Entry). SidesList (IsTreeBelow dig Has now p.level) (with_entry es entry) g) (sym own.lists)
      (subst (λ (n : ℕ). SidesList (IsTreeBelow dig Has now n) (with_entry (woven (map entries own.trees) q.entries)
      entry) g) up
      (sides-of dig Has now q.level (length q.entries) (with_entry (woven (map entries own.trees) q.entries) entry) g
      own.enough lists))

  -- the trees stay as pages are added
  pub are-kept : (more now : Image) → ps ++ more ≡ now → AreTrees (IsTreeBelow dig Has now p.level) p.children ts
  are-kept more now is =
      subst (λ (n : Image). AreTrees (IsTreeBelow dig Has n p.level) p.children ts) is
      (trees-map (IsTreeBelow dig Has ps p.level) (IsTreeBelow dig Has (ps ++ more) p.level)
      (below-kept dig Has ps more p.level) p.children ts are)

-- one page further on the way of the entry's key
pub same-down : (dig : List ℕ → List ℕ) (low high : Option Entry) (p : TreePage) (key : Key) (entry : Entry)
    (d e : Down) → key ≡ key_of entry → d ≡ e → IsDown dig (Absent key) low high p d
    → IsDown dig (Absent (key_of entry)) low high p e
same-down dig low high p key entry d e ek is down = subst (λ (k : Key). IsDown dig (Absent k) low high p e) ek
    (subst (IsDown dig (Absent key) low high p) is down)

-- the child that is found there is the page of its number
pub down-node : (dig : List ℕ → List ℕ) (ps : Image) (ask : Ask) (low high : Option Entry) (p : TreePage) (d : Down)
    (s : Sought) (place : ℕ) (q : TreePage) → d ≡ Child s place q → down_in dig ps ask low high p ≡ Is d
    → node_in dig ps (child_page p place) ≡ Is q
unfolding down_in child_in
down-node dig ps ask low high p d s place q is found = at_spot (seek ask 0 low high p.entries).at
    (found ∙ ap (λ (x : Down). Is x) is)
  where
    own : Sought
    own = seek ask 0 low high p.entries

    page_of : Down → ℕ × TreePage
    page_of (Met t) = (place, q)
    page_of (Leaf t k) = (place, q)
    page_of (Child t k r) = (k, r)

    tried : (k : ℕ) (r : TreePage) (b : Bool) → node_in dig ps (child_page p k) ≡ Is r
        → (when b (child_page p k) r >>= (λ x. Is (Child own k x))) ≡ Is (Child s place q)
        → node_in dig ps (child_page p place) ≡ Is q
    tried k r false there e = absurd (let wrong : ◌≡◌ {A = Found Down} (Bad (child_page p k)) (Is (Child s place q)) =
        e in cc)
    tried k r true there e =
        let both : (k, r) ≡ (place, q) = ap page_of (same_found (Child own k r) (Child s place q) e) in
        subst (λ (x : ℕ × TreePage). node_in dig ps (child_page p x.0) ≡ Is x.1) both there

    read : (k : ℕ) (n : Found TreePage) → node_in dig ps (child_page p k) ≡ n
        → ((n >>= (λ (r : TreePage). when (fits (p.level - 1) own.low own.high r) (child_page p k) r))
        >>= (λ x. Is (Child own k x))) ≡ Is (Child s place q)
        → node_in dig ps (child_page p place) ≡ Is q
    read k (Bad page) there e = absurd (let wrong : ◌≡◌ {A = Found Down} (Bad page) (Is (Child s place q)) = e in cc)
    read k (Is r) there e = tried k r (fits (p.level - 1) own.low own.high r) there e

    at_level : (k : ℕ) (b : Bool)
        → (if b then Is (Leaf own k)
        else ((node_in dig ps (child_page p k) >>= (λ (r : TreePage). when (fits (p.level - 1) own.low own.high r)
        (child_page p k) r)) >>= (λ x. Is (Child own k x)))) ≡ Is (Child s place q)
        → node_in dig ps (child_page p place) ≡ Is q
    at_level k true e = absurd (let wrong : ◌≡◌ {A = Found Down} (Is (Leaf own k)) (Is (Child s place q)) = e in cc)
    at_level k false e = read k (node_in dig ps (child_page p k)) refl e

    at_spot : (spot : Spot) → down_at dig ps ask p own spot ≡ Is (Child s place q) → node_in dig ps (child_page p place)
        ≡ Is q
    at_spot (At slot) e = absurd (let wrong : ◌≡◌ {A = Found Down} (Is (Met own)) (Is (Child s place q)) = e in cc)
    at_spot (Between k) e = at_level k (p.level == 0) e
