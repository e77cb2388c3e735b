-- The pages that an entry more takes, page by page on its way.
use Rattle.std.proofs.Common.{◌≡◌, ℕ, ◌+◌, List, [], ◌∷◌, ◌++◌, length, append_assoc, refl, ap, sym, ◌∙◌, subst, arith}
use Rattle.std.specs.Prelude.{Option, Some, None}
use Rattle.tw_base.specs.declared.history.root.Root.{Root}
use Rattle.tw_base.specs.declared.history.thread.Entry.{Entry}
use Rattle.tw_base.specs.declared.history.thread.Key.{Key}
use Rattle.tw_base.specs.declared.history.tree_proof.Ask.{Ask}
use Rattle.tw_base.specs.declared.history.tree_proof.Ask.TheVariants.{Absent}
use Rattle.tw_base.specs.history.Entries.{key_of}
use Rattle.tw_base.specs.kinds.Texts.{empty_tree_text}
use Rattle.tw_disk.specs.Found.{Found, ◌>>=◌}
use Rattle.tw_disk.specs.Found.Found.{Is}
use Rattle.tw_disk.specs.Image.{Image}
use Rattle.tw_disk.proofs.FoundLaws.{is_on, same_found}
use Rattle.tw_rbnode.specs.declared.node.Found.TheVariants.{Between}
use Rattle.tw_rbnode.specs.Page.{TreePage}
use Rattle.tw_rbtree.specs.declared.descending.Down.{Down}
use Rattle.tw_rbtree.specs.declared.descending.Down.TheVariants.{Leaf, Child}
use Rattle.tw_rbtree.specs.declared.inserting.Grown.{Grown}
use Rattle.tw_rbtree.specs.declared.inserting.Grown.TheVariants.{Two}
use Rattle.tw_rbtree.specs.declared.seeking.Sought.{Sought}
use Rattle.tw_rbtree.specs.Growing.{leaf_of}
use Rattle.tw_rbtree.specs.Putting.{AreRegrown, IsRegrown, IsTop, PutsIn, levels_on}
use Rattle.tw_rbtree.specs.Reading.{node_in}
use Rattle.tw_rbtree.specs.Ways.{Stop, down_in, way, way_from}
use Rattle.tw_rbtree.proofs.Downs.{on_down, way-down}
use Rattle.tw_rbtree.proofs.WayLaws.{on_way, way-empty, way-root}

abbrev pub stop_of : TreePage → Sought → Stop
stop_of p s = record { page = p; sought = s }

module _ (dig : List ℕ → List ℕ) (ps : Image) (ask : Ask) (low high : Option Entry) (p : TreePage) where
  abbrev on : Down → Found (List Stop)
  on = on_down dig ps ask (λ (stops : List Stop). stops) p (λ s. stop_of p s ∷ []) (λ s. stop_of p s ∷ [])
      (λ s stops. stop_of p s ∷ stops)

  as_is : (one : Found (List Stop)) → (one >>= (λ stops. Is stops)) ≡ one
  as_is (Is x) = refl
  as_is (Found.Bad page) = refl

  stops-down : (d : Down) → down_in dig ps ask low high p ≡ Is d → way_from dig ps ask p.level low high p ≡ on d
  stops-down d found =
      sym (as_is (way_from dig ps ask p.level low high p))
      ∙ way-down dig ps ask (λ (stops : List Stop). stops) p (λ s. stop_of p s ∷ []) (λ s. stop_of p s ∷ [])
      (λ s stops. stop_of p s ∷ stops) low high (λ slot at. refl) (λ place at. refl) (λ r stops. refl)
      ∙ is_on (down_in dig ps ask low high p) on d found

  -- the way that ends in this page
  pub way-ends : (d : Down) (s : Sought) (place : ℕ) → d ≡ Leaf s place → down_in dig ps ask low high p ≡ Is d
      → way_from dig ps ask p.level low high p ≡ Is (stop_of p s ∷ [])
  way-ends d s place is found = stops-down d found ∙ ap on is

  -- the way that goes on into a child
  pub way-on : (d : Down) (s : Sought) (place : ℕ) (q : TreePage) (stops : List Stop) → d ≡ Child s place q
      → down_in dig ps ask low high p ≡ Is d → way_from dig ps ask q.level s.low s.high q ≡ Is stops
      → way_from dig ps ask p.level low high p ≡ Is (stop_of p s ∷ stops)
  way-on d s place q stops is found rest =
      stops-down d found ∙ ap on is
      ∙ ap (λ (f : Found (List Stop)). (f >>= (λ xs. Is xs)) >>= (λ xs. Is (stop_of p s ∷ xs))) rest

  pub way-levels : (stops : List Stop) → way_from dig ps ask p.level low high p ≡ Is stops → levels_on stops ≡ p.level
      + 1
  way-levels stops found =
      let both = on_way dig ps ask (λ (xs : List Stop). Is (levels_on xs)) (λ (xs : List Stop). Is (p.level + 1))
      p.level low high p (λ xs. refl) in
      same_found (levels_on stops) (p.level + 1)
      (sym (is_on (way_from dig ps ask p.level low high p) (λ (xs : List Stop). Is (levels_on xs)) stops found) ∙ both
      ∙ is_on (way_from dig ps ask p.level low high p) (λ (xs : List Stop). Is (p.level + 1)) stops found)

-- the way from a root's page
way-from_root : (dig : List ℕ → List ℕ) (ps : Image) (ask : Ask) (root : Root) (p : TreePage) (stops : List Stop)
    → (root.page ≡ 0 → ⊥) → node_in dig ps root.page ≡ Is p → way_from dig ps ask p.level None None p ≡ Is stops
    → way dig ps ask root ≡ Is stops
way-from_root dig ps ask root p stops some first found =
    way-root dig ps ask root some ∙ is_on (node_in dig ps root.page) (λ q. way_from dig ps ask q.level None None q) p
    first ∙ found

-- one page more on the way
regrown-on : (dig : List ℕ → List ℕ) (number used : ℕ) (e : Entry) (p : TreePage) (s : Sought) (place : ℕ)
    (stops : List Stop) (lower own : Image) (below grown : Grown) → s.at ≡ Between place
    → AreRegrown dig number e stops lower below → used ≡ number + length lower → IsRegrown dig used p place below own
    grown → AreRegrown dig number e (stop_of p s ∷ stops) (lower ++ own) grown
regrown-on dig number used e p s place stops lower own below grown at on is regrown =
    (lower, below, on, place, own, at, subst (λ (n : ℕ). IsRegrown dig n p place below own grown) is regrown, refl)

pub root-is_of : (r : Root) (page : ℕ) (label : List ℕ) → r.page ≡ page → r.label ≡ label
    → r ≡ record { page = page; label = label }
root-is_of r page label page_is label_is = λ i. record { page = page_is i; label = label_is i }

-- ---- what a page has become, with what was staged below it

abbrev pub PutBelow : (dig : List ℕ → List ℕ) (ps : Image) (number : ℕ) (e : Entry) (low high : Option Entry)
    (p : TreePage) (now : Option Image) → Grown → Type 0
PutBelow dig ps number e low high p now grown =
    (stops : List Stop) × (more : Image) × (now ≡ Some (ps ++ more)) × (way_from dig ps (Absent (key_of e)) p.level low
    high p ≡ Is stops) × AreRegrown dig number e stops more grown

module _ (dig : List ℕ → List ℕ) (ps : Image) (number used : ℕ) (key : Key) (e : Entry) (low high : Option Entry)
    (p : TreePage) (d : Down) (s : Sought) (place : ℕ) (own : Image) (below grown : Grown) (now : Option Image)
    (same : key ≡ key_of e) (found : down_in dig ps (Absent key) low high p ≡ Is d) (at : s.at ≡ Between place)
    (regrown : IsRegrown dig used p place below own grown) where
  by_key : down_in dig ps (Absent (key_of e)) low high p ≡ Is d
  by_key = subst (λ (k : Key). down_in dig ps (Absent k) low high p ≡ Is d) same found

  pub put-leaf : d ≡ Leaf s place → below ≡ leaf_of dig e → used ≡ number → now ≡ Some (ps ++ own)
      → PutBelow dig ps number e low high p now grown
  put-leaf is leaf first told =
      let none : used ≡ number + length {A = List ℕ} [] = omega (arith, first) in (
        stop_of p s ∷ [],
        own,
        told,
        way-ends dig ps (Absent (key_of e)) low high p d s place is by_key,
        regrown-on dig number used e p s place [] [] own below grown at (refl, leaf) none regrown,
      )

  pub put-child : (q : TreePage) (stops : List Stop) (lower : Image) (first : ℕ) → d ≡ Child s place q
      → way_from dig ps (Absent (key_of e)) q.level s.low s.high q ≡ Is stops → first ≡ number
      → AreRegrown dig first e stops lower below → used ≡ number + length lower → now ≡ Some ((ps ++ lower) ++ own)
      → PutBelow dig ps number e low high p now grown
  put-child q stops lower first is rest begins on ends told = (
    stop_of p s ∷ stops,
    lower ++ own,
    told ∙ ap (λ (xs : Image). Some xs) (append_assoc ps lower own),
    way-on dig ps (Absent (key_of e)) low high p d s place q stops is by_key rest,
    regrown-on dig number used e p s place stops lower own below grown at
        (subst (λ (n : ℕ). AreRegrown dig n e stops lower below) begins on) ends regrown,
  )

-- ---- and the root

abbrev pub Put : (dig : List ℕ → List ℕ) (ps : Image) (root : Root) (e : Entry) (now : Option Image) (new : Root)
    → Type 0
Put dig ps root e now new = (more : Image) × (now ≡ Some (ps ++ more)) × PutsIn dig ps root e more new

module _ (dig : List ℕ → List ℕ) (ps : Image) (root : Root) (e : Entry) (new : Root) (now : Option Image) where
  pub put-empty : (label : List ℕ) (number : ℕ) (top : Image) → root.page ≡ 0 → label ≡ dig empty_tree_text
      → number ≡ 4 + length ps → now ≡ Some (ps ++ top)
      → IsTop dig number 0 (Two (record { page = 0; label = label }) e (record { page = 0; label = label })) top new
      → Put dig ps root e now new
  put-empty label number top none empty first told is =
      let same : number ≡ 4 + length ps + length {A = List ℕ} [] = omega (arith, first) in (
        top,
        told,
        record {
          stops = [];
          found = way-empty dig ps (Absent (key_of e)) root none;
          grown = leaf_of dig e;
          lower = [];
          regrown = (refl, refl);
          top = top;
          is_top = subst (λ (n : ℕ). IsTop dig n 0 (leaf_of dig e) top new) same
              (subst (λ (l : List ℕ). IsTop dig number 0
              (Two (record { page = 0; label = l }) e (record { page = 0; label = l })) top new) empty is);
          are = refl;
        },
      )

  module _ (p : TreePage) (stops : List Stop) (lower : Image) (number : ℕ) (grown : Grown) (some : root.page ≡ 0 → ⊥)
      (there : node_in dig ps root.page ≡ Is p)
      (found : way_from dig ps (Absent (key_of e)) p.level None None p ≡ Is stops) (first : number ≡ 4 + length ps)
      (on : AreRegrown dig number e stops lower grown) where
    put-with : (top more : Image) → now ≡ Some (ps ++ more) → more ≡ lower ++ top
        → IsTop dig (4 + length ps + length lower) (levels_on stops) grown top new → Put dig ps root e now new
    put-with top more told are is_top = (
      more,
      told,
      record {
        stops = stops;
        found = way-from_root dig ps (Absent (key_of e)) root p stops some there found;
        grown = grown;
        lower = lower;
        regrown = subst (λ (n : ℕ). AreRegrown dig n e stops lower grown) first on;
        top = top;
        is_top = is_top;
        are = are;
      },
    )

    pub put-top : (top : Image) (last level : ℕ) → last ≡ 4 + length ps + length lower → level ≡ p.level
        → now ≡ Some ((ps ++ lower) ++ top) → IsTop dig last (level + 1) grown top new → Put dig ps root e now new
    put-top top last level ends level_is told is_top =
        let own = way-levels dig ps (Absent (key_of e)) None None p stops found in
        let levels : level + 1 ≡ levels_on stops = omega (arith, level_is, own) in
        put-with top (lower ++ top) (told ∙ ap (λ (xs : Image). Some xs) (append_assoc ps lower top)) refl
        (subst (λ (n : ℕ). IsTop dig n (levels_on stops) grown top new) ends
        (subst (λ (n : ℕ). IsTop dig last n grown top new) levels is_top))
