-- What is found in pages that stand for a tree.
use Rattle.std.proofs.Common.{◌≡◌, ℕ, suc, zero, ◌+◌, ◌*◌, ◌<◌, ◌≤◌, List, [], ◌∷◌, ◌++◌, length, Bool, true, false}
use Rattle.std.proofs.Common.{refl, ap, sym, ◌∙◌, subst, arith, slice_get, length-append}
use Rattle.std.specs.Prelude.{◌==◌, ◌&&◌, nat_le, Option, Some, None, map, slice_index_or}
use Rattle.std.proofs.lemmas.Bool.{le-leb}
use Rattle.tw_base.specs.declared.history.thread.Entry.{Entry}
use Rattle.tw_base.specs.declared.history.tree_proof.Ancestor.{Ancestor}
use Rattle.tw_base.specs.declared.history.tree_proof.Ask.{Ask}
use Rattle.tw_base.specs.declared.history.tree_proof.Ask.TheVariants.{Present, Absent, Below, Above}
use Rattle.tw_base.specs.declared.history.tree_proof.TreeProof.TheVariants.{Present as OfEntry}
use Rattle.tw_base.specs.history.Auth.{tree_label}
use Rattle.tw_base.specs.kinds.Lists.{Each}
use Rattle.tw_base.specs.history.Tree.{Tree, IsRising, entries}
use Rattle.tw_base.specs.history.Tree.Tree.{Empty as NoEntry}
use Rattle.tw_base.specs.history.TreeProofs.{place_of_ask, proof_at, way_up}
use Rattle.tw_base.specs.history.Ways.{has_asked_key, is_left}
use Rattle.tw_disk.specs.Found.{◌>>=◌}
use Rattle.tw_disk.specs.Found.Found.{Is}
use Rattle.tw_disk.specs.Image.{Image}
use Rattle.tw_disk.proofs.FoundLaws.{is_on}
use Rattle.tw_rbnode.specs.declared.child.Child.{Child}
use Rattle.tw_rbnode.specs.declared.node.Found.{Found as Spot}
use Rattle.tw_rbnode.specs.declared.node.Found.TheVariants.{At, Between}
use Rattle.tw_rbnode.specs.Children.{HasChildren, IsChildAt}
use Rattle.tw_rbnode.specs.Page.{IsNode, TreePage}
use Rattle.tw_rbnode.specs.Trees.{above_at, labels_of, mark_of, nodes_above, page_tree, sides_at, woven}
use Rattle.tw_rbnode.proofs.TreeLists.{page-list}
use Rattle.tw_rbtree.specs.declared.seeking.Sought.{Sought}
use Rattle.tw_rbtree.specs.Paths.{proof_in, way_nodes, way_proof}
use Rattle.tw_rbtree.specs.Reading.{IsPageAt, child_in, fits, lie_between}
use Rattle.tw_rbtree.specs.Standing.{AreTrees, IsTreeBelow, any_page, OfPage}
use Rattle.tw_rbtree.specs.Ways.{Stop, child_page, end_of_way, seek, way_from}
use Rattle.tw_rbtree.proofs.PageLaws.{IsSpotOf, child-is, seek-there}
use Rattle.tw_rbtree.proofs.PageWays.{Guides, from_first, leads-between, leads-slot, seek-guides}
use Rattle.tw_rbtree.proofs.SizeLaws.{page-short}
use Rattle.tw_rbtree.proofs.WayLaws.{child_page-get, here, way-at, way-goes, way-leaf}
use Rattle.tw_rbtree.proofs.Weaving.{EndsPage, EndsAt, LiesBetween, Tells, between-all, left_here, met_here, pick}
use Rattle.tw_rbtree.proofs.Weaving.{picked-at, picked-between, seek-cons, seek-nil, step_by, tells-page, woven-own}

-- ---- children and their trees

-- a child and its tree, at one place
pub record IsTreeAt (R : Child → Tree → Type 0) (cs : List Child) (ts : List Tree) (place : ℕ) : Type 0 where
  pub child : Child
  pub there : slice_get cs place ≡ Some child
  pub is : R child (slice_index_or ts place NoEntry)

pub trees-count : (R : Child → Tree → Type 0) (cs : List Child) (ts : List Tree) → AreTrees R cs ts
    → length ts ≡ length cs
trees-count R [] [] are = refl
trees-count R [] (t ∷ ts) are = absurd are
trees-count R (c ∷ cs) [] are = absurd are
trees-count R (c ∷ cs) (t ∷ ts) are = ap suc (trees-count R cs ts are.1)

pub tree-at : (R : Child → Tree → Type 0) (cs : List Child) (ts : List Tree) → AreTrees R cs ts → (place : ℕ)
    → place < length cs → IsTreeAt R cs ts place
tree-at R [] ts are place h = absurd (omega arith)
tree-at R (c ∷ cs) [] are place h = absurd are
tree-at R (c ∷ cs) (t ∷ ts) are zero h = record { child = c; there = refl; is = are.0 }
tree-at R (c ∷ cs) (t ∷ ts) are (suc place) h = let rest = tree-at R cs ts are.1 place (omega (arith, h)) in
    record { child = rest.child; there = rest.there; is = rest.is }

pub map-count : {X Y : Type 0} (f : X → Y) (xs : List X) → length (map f xs) ≡ length xs
map-count f [] = refl
map-count f (x ∷ xs) = ap suc (map-count f xs)

pub list-at : (ts : List Tree) (place : ℕ) → slice_index_or (map entries ts) place [] ≡ entries
    (slice_index_or ts place NoEntry)
list-at [] place = refl
list-at (t ∷ ts) zero = refl
list-at (t ∷ ts) (suc place) = list-at ts place

-- the labels of the children are those of their trees
labels-same : (dig : List ℕ → List ℕ) (R : Child → Tree → Type 0) → ((c : Child) (t : Tree) → R c t
    → c.label ≡ tree_label dig t) → (cs : List Child) (ts : List Tree) → AreTrees R cs ts
    → labels_of cs ≡ map (tree_label dig) ts
labels-same dig R label [] [] are = refl
labels-same dig R label [] (t ∷ ts) are = absurd are
labels-same dig R label (c ∷ cs) [] are = absurd are
labels-same dig R label (c ∷ cs) (t ∷ ts) are = λ i. label c t are.0 i ∷ labels-same dig R label cs ts are.1 i

leaf-labels : (dig : List ℕ → List ℕ) (level : ℕ) → level ≡ 0 → (cs : List Child) (ts : List Tree)
    → Each (IsChildAt dig level) cs → AreTrees (λ c t. t ≡ NoEntry) cs ts → labels_of cs ≡ map (tree_label dig) ts
unfolding tree_label
leaf-labels dig zero z [] [] all are = refl
leaf-labels dig zero z [] (t ∷ ts) all are = absurd are
leaf-labels dig zero z (c ∷ cs) [] all are = absurd are
leaf-labels dig zero z (c ∷ cs) (t ∷ ts) all are = λ i. (all.0.1 ∙ ap (tree_label dig) (sym are.0)) i ∷ leaf-labels dig
    zero z cs ts all.1 are.1 i
leaf-labels dig (suc level) z cs ts all are = absurd (omega (arith, z))

module _ (dig : List ℕ → List ℕ) (Has : OfPage) (ps : Image) where
  pub over-labels : (level : ℕ) (p : TreePage) (ts : List Tree) → HasChildren dig p → p.level ≡ level
      → AreTrees (IsTreeBelow dig Has ps level) p.children ts → labels_of p.children ≡ map (tree_label dig) ts
  unfolding IsTreeBelow
  over-labels zero p ts kinds is are = leaf-labels dig p.level is p.children ts kinds are
  over-labels (suc level) p ts kinds is are = labels-same dig (IsTreeBelow dig Has ps (suc level))
      (λ c t below. below.0) p.children ts are

-- a question that leads to a place has met nothing
pub met-none : (ask : Ask) (base : ℕ) (low high : Option Entry) (es : List Entry) (place : ℕ)
    → (seek ask base low high es).at ≡ Between place → (seek ask base low high es).met ≡ None
met-none ask base low high [] place at = ap (λ (s : Sought). s.met) (seek-nil ask base low high)
met-none ask base low high (e ∷ es) place at =
    ap (λ (s : Sought). s.met) (seek-cons ask base low high e es)
    ∙ by (has_asked_key ask e) (is_left ask e) (met-none ask (base + 1) (Some e) high es place)
    (ap (λ (s : Sought). s.at) (sym (seek-cons ask base low high e es)) ∙ at)
  where
    rest : Sought
    rest = seek ask (base + 1) (Some e) high es

    by : (meets left : Bool) → (rest.at ≡ Between place → rest.met ≡ None)
        → (step_by meets left (met_here ask base low high e es) (left_here ask base low high e es) rest).at ≡ Between
        place
        → (step_by meets left (met_here ask base low high e es) (left_here ask base low high e es) rest).met ≡ None
    by true left on there = cc
    by false true on there = refl
    by false false on there = on there

tells-nothing : (ask : Ask) (s : Sought) → s.met ≡ None → Tells ask [] s.low s.high s
tells-nothing (Present a) s none = sym none
tells-nothing (Absent key) s none = sym none
tells-nothing (Below key) s none = refl
tells-nothing (Above key) s none = refl

pub true_level : (a b : ℕ) → a ≡ b → (a == b) ≡ true
true_level a b e = grind arith

pub fits-true : (level : ℕ) (low high : Option Entry) (p : TreePage) → p.level ≡ level → 12 ≤ length p.entries
    → lie_between low high p.entries ≡ true → fits level low high p ≡ true
fits-true level low high p is enough lie =
    ap (λ (b : Bool). (b && nat_le 12 (length p.entries)) && lie_between low high p.entries)
    (true_level p.level level is)
    ∙ ap (λ (b : Bool). b && lie_between low high p.entries) (le-leb 12 (length p.entries) enough) ∙ lie

module _ (dig : List ℕ → List ℕ) (ps : Image) (ask : Ask) where
  -- the way from a page that is a tree, what its end tells of the tree's list, and the proof that it shows
  pub record WayIn (level : ℕ) (low high : Option Entry) (p : TreePage) (t : Tree) : Type 0 where
    pub first : Stop
    pub rest : List Stop
    pub found : way_from dig ps ask level low high p ≡ Is (first ∷ rest)
    pub tells : Tells ask (entries t) low high (end_of_way first.sought rest)
    pub few : length (way_nodes dig (first ∷ rest)) ≤ 9 * (level + 1)
    pub up : way_nodes dig (first ∷ rest) ≡ way_up dig ask t
    pub proof : (above : List Ancestor) → way_proof dig (first ∷ rest) above ≡ proof_at dig (place_of_ask ask t) above

  module _ (level : ℕ) (low high : Option Entry) (page : ℕ) (p : TreePage) (ts : List Tree)
      (there : IsPageAt dig ps page p) (level_is : p.level ≡ level)
      (are : AreTrees (IsTreeBelow dig any_page ps level) p.children ts) (rising : IsRising (entries (page_tree p ts)))
      (lie : Each (LiesBetween low high) (entries (page_tree p ts))) where
    abbrev t : Tree
    t = page_tree p ts

    abbrev s : Sought
    s = seek ask 0 low high p.entries

    node : IsNode p
    node = there.may_stand.node

    count : length ts ≡ length p.children
    count = trees-count (IsTreeBelow dig any_page ps level) p.children ts are

    list_is : entries (page_tree p ts) ≡ woven (map entries ts) p.entries
    list_is = page-list p ts node count

    lists_count : length (map entries ts) ≡ length p.entries + 1
    lists_count = map-count entries ts ∙ count ∙ node.places

    rises : IsRising (woven (map entries ts) p.entries)
    rises = subst IsRising list_is rising

    lies : Each (LiesBetween low high) (woven (map entries ts) p.entries)
    lies = subst (Each (LiesBetween low high)) list_is lie

    pub own_between : lie_between low high p.entries ≡ true
    own_between = between-all low high p.entries (woven-own (LiesBetween low high) (map entries ts) p.entries
        lists_count lies)

    labels : labels_of p.children ≡ map (tree_label dig) ts
    labels = over-labels dig any_page ps level p ts there.may_stand.children level_is are

    spot_there : IsSpotOf 0 (length p.entries) (seek ask 0 low high p.entries).at
    spot_there = seek-there ask 0 low high p.entries

    -- what the end tells
    tells_of : (end : Sought) → EndsPage ask (seek ask 0 low high p.entries) (pick ask p.entries (map entries ts) [])
        end → Tells ask (entries (page_tree p ts)) low high end
    tells_of end ends = subst (λ (es : List Entry). Tells ask es low high end) (sym list_is)
        (tells-page ask high end 0 low (map entries ts) p.entries lists_count rises ends)

    module _ (slot : ℕ) (spot : (seek ask 0 low high p.entries).at ≡ At slot) where
      slot_there : IsSpotOf 0 (length p.entries) (At slot)
      slot_there = subst (IsSpotOf 0 (length p.entries)) spot spot_there

      meets : (way_up dig ask (page_tree p ts) ≡ nodes_above dig p (At slot))
          × ((above : List Ancestor) → proof_at dig (place_of_ask ask (page_tree p ts)) above ≡ proof_in dig p (At slot)
          above)
      meets =
          let ls : labels_of p.children ≡ map (tree_label dig) ts = labels in
          let guides = from_first ask (2 * slot) p.entries (subst (λ (x : Spot). Guides ask (mark_of x) 0 p.entries)
          spot (seek-guides ask 0 low high p.entries node.rising)) in
          subst (λ (l : List (List ℕ)). (way_up dig ask (page_tree p ts) ≡ above_at dig p.entries l (2 * slot) 0
          p.shape)
          × ((above : List Ancestor) → proof_at dig (place_of_ask ask (page_tree p ts)) above ≡ OfEntry
          (sides_at dig p.entries l slot 0 p.shape).0 (sides_at dig p.entries l slot 0 p.shape).1 above)) (sym ls)
          (leads-slot dig p.entries ts ask slot guides 0 p.shape (omega (arith, slot_there.0))
          (omega (arith, slot_there.1, node.sized)) (omega (arith, node.sized)))

      pub way_slot : WayIn level low high p (page_tree p ts)
      unfolding way_nodes way_proof
      way_slot = record {
        first = here dig ps ask low high p;
        rest = [];
        found = way-at dig ps ask low high p level slot spot;
        tells = tells_of (seek ask 0 low high p.entries)
            (subst (λ (x : Spot). EndsAt x ask (seek ask 0 low high p.entries) (pick ask p.entries (map entries ts) [])
            (seek ask 0 low high p.entries)) (sym spot) refl);
        few = omega (arith, page-short dig p (seek ask 0 low high p.entries).at node);
        up = ap (λ (x : Spot). nodes_above dig p x) spot ∙ sym meets.0;
        proof = λ above. ap (λ (x : Spot). proof_in dig p x above) spot ∙ sym (meets.1 above);
      }

    module _ (place : ℕ) (spot : (seek ask 0 low high p.entries).at ≡ Between place) where
      place_there : IsSpotOf 0 (length p.entries) (Between place)
      place_there = subst (IsSpotOf 0 (length p.entries)) spot spot_there

      abbrev below : Tree
      below = slice_index_or ts place NoEntry

      picked : pick ask p.entries (map entries ts) [] ≡ entries (slice_index_or ts place NoEntry)
      picked = picked-at ask 0 low high p.entries (map entries ts) [] place lists_count
          (spot ∙ ap (λ (n : ℕ). Between n) (let e : place ≡ 0 + place = omega arith in e)) ∙ list-at ts place

      pub child_there : IsTreeAt (IsTreeBelow dig any_page ps level) p.children ts place
      child_there = tree-at (IsTreeBelow dig any_page ps level) p.children ts are place
          (omega (arith, place_there.1, node.places))

      leads : (way_up dig ask (page_tree p ts) ≡ way_up dig ask (slice_index_or ts place NoEntry) ++ nodes_above dig p
          (Between place))
          × (place_of_ask ask (page_tree p ts) ≡ place_of_ask ask (slice_index_or ts place NoEntry))
      leads =
          let ls : labels_of p.children ≡ map (tree_label dig) ts = labels in
          let guides = from_first ask (2 * place + 1) p.entries
          (subst (λ (x : Spot). Guides ask (mark_of x) 0 p.entries) spot
          (seek-guides ask 0 low high p.entries node.rising)) in
          subst (λ (l : List (List ℕ)). (way_up dig ask (page_tree p ts) ≡ way_up dig ask
          (slice_index_or ts place NoEntry) ++ above_at dig p.entries l (2 * place + 1) 0 p.shape)
          × (place_of_ask ask (page_tree p ts) ≡ place_of_ask ask (slice_index_or ts place NoEntry))) (sym ls)
          (leads-between dig p.entries ts ask place guides 0 p.shape (omega arith)
          (omega (arith, place_there.1, node.sized)) (omega (arith, node.sized)))

      tells_below : (end : Sought) → Tells ask (entries (slice_index_or ts place NoEntry))
          (seek ask 0 low high p.entries).low (seek ask 0 low high p.entries).high end
          → Tells ask (entries (page_tree p ts)) low high end
      tells_below end tells =
          tells_of end
          (subst (λ (x : Spot). EndsAt x ask (seek ask 0 low high p.entries) (pick ask p.entries (map entries ts) [])
          end) (sym spot)
          (subst (λ (es : List Entry). Tells ask es (seek ask 0 low high p.entries).low
          (seek ask 0 low high p.entries).high end) (sym picked) tells))

      -- the picked child's entries lie on either side of the way, and rise
      pub below_between : Each (LiesBetween (seek ask 0 low high p.entries).low (seek ask 0 low high p.entries).high)
          (entries (slice_index_or ts place NoEntry)) × IsRising (entries (slice_index_or ts place NoEntry))
      below_between =
          subst (λ (es : List Entry). Each (LiesBetween (seek ask 0 low high p.entries).low
          (seek ask 0 low high p.entries).high) es × IsRising es) picked
          (picked-between ask high 0 low (map entries ts) p.entries lists_count rises lies place spot)

      pub way_empty_place : level ≡ 0 → slice_index_or ts place NoEntry ≡ NoEntry → WayIn level low high p
          (page_tree p ts)
      unfolding way_nodes way_proof way_up place_of_ask
      way_empty_place leaf none = record {
        first = here dig ps ask low high p;
        rest = [];
        found = way-leaf dig ps ask low high p level leaf;
        tells = tells_below (seek ask 0 low high p.entries)
            (subst (λ (b : Tree). Tells ask (entries b) (seek ask 0 low high p.entries).low
            (seek ask 0 low high p.entries).high (seek ask 0 low high p.entries)) (sym none)
            (tells-nothing ask (seek ask 0 low high p.entries) (met-none ask 0 low high p.entries place spot)));
        few = omega (arith, page-short dig p (seek ask 0 low high p.entries).at node);
        up = ap (λ (x : Spot). nodes_above dig p x) spot
            ∙ sym (leads.0 ∙ ap (λ (b : Tree). way_up dig ask b ++ nodes_above dig p (Between place)) none);
        proof = λ above. ap (λ (x : Spot). proof_in dig p x above) spot
            ∙ sym (ap (λ (b : Tree). proof_at dig b above) (leads.1 ∙ ap (place_of_ask ask) none));
      }

      pub way_below : (lower : ℕ) → level ≡ suc lower → (q : TreePage) → child_in dig ps lower
          (seek ask 0 low high p.entries).low (seek ask 0 low high p.entries).high (child_page p place) ≡ Is q
          → WayIn lower (seek ask 0 low high p.entries).low (seek ask 0 low high p.entries).high q
          (slice_index_or ts place NoEntry) → WayIn level low high p (page_tree p ts)
      unfolding way_nodes way_proof
      way_below lower is q child on = record {
        first = here dig ps ask low high p;
        rest = on.first ∷ on.rest;
        found =
            way-goes dig ps ask low high p level lower place is spot
            ∙ is_on (child_in dig ps lower (seek ask 0 low high p.entries).low (seek ask 0 low high p.entries).high
            (child_page p place))
            (λ r. way_from dig ps ask lower (seek ask 0 low high p.entries).low (seek ask 0 low high p.entries).high r
            >>= (λ stops. Is (here dig ps ask low high p ∷ stops))) q child
            ∙ is_on (way_from dig ps ask lower (seek ask 0 low high p.entries).low (seek ask 0 low high p.entries).high
            q) (λ stops. Is (here dig ps ask low high p ∷ stops)) (on.first ∷ on.rest) on.found;
        tells = tells_below (end_of_way on.first.sought on.rest) on.tells;
        few =
            omega (
              arith,
              on.few,
              is,
              page-short dig p (seek ask 0 low high p.entries).at node,
              length-append (way_nodes dig (on.first ∷ on.rest)) (nodes_above dig p (seek ask 0 low high p.entries).at),
            );
        up = (λ i. on.up i ++ nodes_above dig p (spot i)) ∙ sym leads.0;
        proof = λ above. on.proof above ∙ ap (λ (b : Tree). proof_at dig b above) (sym leads.1);
      }

  -- from a page of a tree, by its level
  pub way-in : (level : ℕ) (low high : Option Entry) (page : ℕ) (p : TreePage) (ts : List Tree) → IsPageAt dig ps page p
      → p.level ≡ level → AreTrees (IsTreeBelow dig any_page ps level) p.children ts
      → IsRising (entries (page_tree p ts)) → Each (LiesBetween low high) (entries (page_tree p ts))
      → WayIn level low high p (page_tree p ts)
  unfolding IsTreeBelow
  way-in zero low high page p ts there is are rising lie = by (seek ask 0 low high p.entries).at refl
    where
      by : (x : Spot) → (seek ask 0 low high p.entries).at ≡ x → WayIn zero low high p (page_tree p ts)
      by (At slot) spot = way_slot zero low high page p ts there is are rising lie slot spot
      by (Between place) spot = way_empty_place zero low high page p ts there is are rising lie place spot refl
          (child_there zero low high page p ts there is are rising lie place spot).is
  way-in (suc level) low high page p ts there is are rising lie =
      by (seek ask 0 low high p.entries).at refl (λ low high page q ts. way-in level low high page q ts)
    where
      Below : Type 0
      Below = (low high : Option Entry) (page : ℕ) (q : TreePage) (ts : List Tree) → IsPageAt dig ps page q
          → q.level ≡ level → AreTrees (IsTreeBelow dig any_page ps level) q.children ts
          → IsRising (entries (page_tree q ts)) → Each (LiesBetween low high) (entries (page_tree q ts))
          → WayIn level low high q (page_tree q ts)

      by : (x : Spot) → (seek ask 0 low high p.entries).at ≡ x → Below → WayIn (suc level) low high p (page_tree p ts)
      by (At slot) spot on = way_slot (suc level) low high page p ts there is are rising lie slot spot
      by (Between place) spot on =
          let s : Sought = seek ask 0 low high p.entries in
          let child = child_there (suc level) low high page p ts there is are rising lie place spot in
          let below = child.is.1 in
          let sides = below_between (suc level) low high page p ts there is are rising lie place spot in
          let q = below.node in
          let tree : slice_index_or ts place NoEntry ≡ page_tree q below.trees = below.tree_is in
          let lies = subst (λ (b : Tree). Each (LiesBetween s.low s.high) (entries b)) tree sides.0 in
          let rises = subst (λ (b : Tree). IsRising (entries b)) tree sides.1 in
          let fit = fits-true level s.low s.high q below.level_is below.least_keys
          (own_between level s.low s.high child.child.page q below.trees below.at below.level_is below.are_trees rises
          lies) in
          let found : child_in dig ps level s.low s.high (child_page p place) ≡ Is q =
          ap (child_in dig ps level s.low s.high) (child_page-get p place child.child child.there) ∙ child-is dig ps
          level s.low s.high child.child.page q below.at fit in
          way_below (suc level) low high page p ts there is are rising lie place spot level refl q found
          (subst (λ (b : Tree). WayIn level s.low s.high q b) (sym tree) (on s.low s.high child.child.page q below.trees
          below.at below.level_is below.are_trees rises lies))
