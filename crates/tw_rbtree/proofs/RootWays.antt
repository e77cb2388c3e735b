-- What is found under a root for whose tree the pages stand.
use Rattle.std.proofs.Common.{◌≡◌, ℕ, ◌+◌, ◌-◌, ◌*◌, ◌^◌, ◌<◌, ◌≤◌, List, [], ◌∷◌, length, refl, ap, sym, ◌∙◌, subst}
use Rattle.std.proofs.Common.{arith, inl, inr}
use Rattle.std.specs.Prelude.{◌==◌, Bool, true, false, Option, None, if◌then◌else◌}
use Rattle.tw_base.specs.declared.history.root.Root.{Root}
use Rattle.tw_base.specs.declared.history.thread.Entry.{Entry}
use Rattle.tw_base.specs.declared.history.thread.Key.{Key}
use Rattle.tw_base.specs.declared.history.tree_proof.Ancestor.{Ancestor}
use Rattle.tw_base.specs.declared.history.tree_proof.Ask.{Ask}
use Rattle.tw_base.specs.declared.history.tree_proof.Ask.TheVariants.{Present, Absent, Below, Above}
use Rattle.tw_base.specs.history.Asking.{entry_with, first_above, last_below}
use Rattle.tw_base.specs.kinds.Lists.{Each}
use Rattle.tw_base.specs.history.Tree.{Tree, IsRising, entries}
use Rattle.tw_base.specs.history.Tree.Tree.{Empty as NoEntry}
use Rattle.tw_base.specs.history.TreeProofs.{IsSo, place_of_ask, proof_at, proof_of, way_up}
use Rattle.tw_disk.specs.Found.{Found, ◌>>=◌}
use Rattle.tw_disk.specs.Found.Found.{Is}
use Rattle.tw_disk.specs.Image.{Image}
use Rattle.tw_disk.proofs.FoundLaws.{is_on}
use Rattle.tw_rbnode.specs.Page.{TreePage}
use Rattle.tw_rbnode.specs.Trees.{page_tree}
use Rattle.tw_base.proofs.lemmas.history.Asked.{or-none}
use Rattle.tw_rbtree.specs.declared.seeking.Sought.{Sought}
use Rattle.tw_rbtree.specs.Answers.{IsSoAt}
use Rattle.tw_rbtree.specs.Paths.{proof_of_way, way_nodes, way_proof}
use Rattle.tw_rbtree.specs.Reading.{levels_in, node_in}
use Rattle.tw_rbtree.specs.Standing.{IsRootTree, IsTreeBelow, IsTreePage, StandsForTree, any_page}
use Rattle.tw_rbtree.specs.Ways.{Stop, end_of_way, found_after, found_before, found_with, nowhere, way, way_end}
use Rattle.tw_rbtree.specs.Ways.{way_from}
use Rattle.tw_rbtree.proofs.PageLaws.{root-is}
use Rattle.tw_rbtree.proofs.SizeLaws.{root-count}
use Rattle.tw_rbtree.proofs.Standings.{WayIn, way-in}
use Rattle.tw_rbtree.proofs.WayLaws.{way-empty, way-root}
use Rattle.tw_rbtree.proofs.Weaving.{LiesBetween, Tells}

pub all_between : (es : List Entry) → Each (LiesBetween None None) es
all_between [] = tt
all_between (e ∷ es) = ((refl, refl), all_between es)

module _ (dig : List ℕ → List ℕ) (ps : Image) (ask : Ask) (root : Root) where
  -- the way from the root down
  pub record RootWay (t : Tree) : Type 0 where
    pub stops : List Stop
    pub found : way dig ps ask root ≡ Is stops
    pub tells : Tells ask (entries t) None None (end_of_way nowhere stops)
    pub proof : proof_of_way dig stops ≡ proof_of dig t ask
    pub levels : ℕ
    pub levels_is : levels_in dig ps root.page ≡ Is levels
    pub few : length (way_nodes dig stops) ≤ 9 * levels
    pub many : 0 < levels → 2 * 13 ^ (levels - 1) ≤ length (entries t) + 1
    pub up : way_nodes dig stops ≡ way_up dig ask t

  nothing_tells : (a : Ask) → Tells a [] None None nowhere
  nothing_tells (Present e) = refl
  nothing_tells (Absent key) = refl
  nothing_tells (Below key) = refl
  nothing_tells (Above key) = refl

  level_by : Bool → Found ℕ
  level_by b = if b then Is 0 else (node_in dig ps root.page >>= (λ p. Is (p.level + 1)))

  no_levels : root.page ≡ 0 → levels_in dig ps root.page ≡ Is 0
  unfolding levels_in level_by
  no_levels none = ap level_by (let t : (root.page == 0) ≡ true = grind arith in t)

  some_levels : (level : ℕ) (p : TreePage) → (root.page ≡ 0 → ⊥) → node_in dig ps root.page ≡ Is p → p.level ≡ level
      → levels_in dig ps root.page ≡ Is (level + 1)
  unfolding levels_in level_by
  some_levels level p some found is =
      ap level_by (let t : (root.page == 0) ≡ false = grind arith in t) ∙ is_on (node_in dig ps root.page)
      (λ (q : TreePage). Is (q.level + 1)) p found ∙ ap (λ (n : ℕ). Is (n + 1)) is

  empty_way : root.page ≡ 0 → RootWay NoEntry
  unfolding way_nodes way_proof way_up place_of_ask
  empty_way none =
      record {
        levels_is = no_levels none;
        stops = [];
        found = way-empty dig ps ask root none;
        tells = nothing_tells ask;
        proof = refl;
        levels = 0;
        few = omega arith;
        many = λ (h : 0 < 0). absurd (omega (arith, h));
        up = refl;
      }

  page_way : (t : Tree) → IsRising (entries t) → (level : ℕ) → IsTreePage dig any_page ps
      (IsTreeBelow dig any_page ps level) level 1 root.page t → RootWay t
  page_way t rising level is =
      let p = is.node in
      let rises : IsRising (entries (page_tree p is.trees)) = subst (λ (x : Tree). IsRising (entries x)) is.tree_is
      rising in
      let w : WayIn dig ps ask level None None p (page_tree p is.trees) =
      way-in dig ps ask level None None root.page p is.trees is.at is.level_is is.are_trees rises
      (all_between (entries (page_tree p is.trees))) in
      let on : way dig ps ask root ≡ Is (w.first ∷ w.rest) =
      way-root dig ps ask root (λ (e : root.page ≡ 0). omega (arith, e, is.at.low))
      ∙ is_on (node_in dig ps root.page) (λ q. way_from dig ps ask q.level None None q) p
      (root-is dig ps root.page p is.at)
      ∙ ap (λ (n : ℕ). way_from dig ps ask n None None p) is.level_is ∙ w.found in
      subst RootWay (sym is.tree_is) (record {
        stops = w.first ∷ w.rest;
        found = on;
        tells = w.tells;
        levels = level + 1;
        levels_is = some_levels level p (λ (e : root.page ≡ 0). omega (arith, e, is.at.low))
            (root-is dig ps root.page p is.at) is.level_is;
        few = w.few;
        many = λ _.
            let count = root-count dig ps level root.page t is in
            let same : level + 1 - 1 ≡ level = omega arith in
            subst (λ (n : ℕ). 2 * 13 ^ n ≤ length (entries (page_tree p is.trees)) + 1) (sym same)
            (subst (λ (x : Tree). 2 * 13 ^ level ≤ length (entries x) + 1) is.tree_is count);
        up = w.up;
        proof = w.proof (way_nodes dig (w.first ∷ w.rest))
            ∙ ap (λ (up : List Ancestor). proof_at dig (place_of_ask ask (page_tree p is.trees)) up) w.up;
      })

  pub root-way : (t : Tree) → StandsForTree dig ps root t → RootWay t
  root-way t stands = by stands.tree
    where
      by : IsRootTree dig any_page ps root.page t → RootWay t
      by (inl none) = subst RootWay (sym none.1) (empty_way none.0)
      by (inr (level, is)) = page_way t stands.rising level is

module _ (dig : List ℕ → List ℕ) (ps : Image) (root : Root) (t : Tree) where
  -- what is taken of the way's end, of which the way tells it
  end-found : (ask : Ask) (take : Sought → Option Entry) (o : Option Entry) → StandsForTree dig ps root t
      → ((end : Sought) → Tells ask (entries t) None None end → o ≡ take end)
      → (way_end dig ps ask root >>= (λ end. Is (take end))) ≡ Is o
  unfolding way_end
  end-found ask take o stands tells =
      let w = root-way dig ps ask root t stands in
      ap (λ (f : Found (List Stop)). (f >>= (λ stops. Is (end_of_way nowhere stops))) >>= (λ end. Is (take end)))
      w.found
      ∙ ap (λ (x : Option Entry). Is x) (sym (tells (end_of_way nowhere w.stops) w.tells))

  module _ (key : Key) (stands : StandsForTree dig ps root t) where
    pub with-found : found_with dig ps root key ≡ Is (entry_with (entries t) key)
    unfolding found_with
    with-found = end-found (Absent key) (λ end. end.met) (entry_with (entries t) key) stands (λ end tells. tells)

    pub before-found : found_before dig ps root key ≡ Is (last_below (entries t) key)
    unfolding found_before
    before-found = end-found (Below key) (λ end. end.low) (last_below (entries t) key) stands
        (λ end tells. sym (or-none (last_below (entries t) key)) ∙ tells)

    pub after-found : found_after dig ps root key ≡ Is (first_above (entries t) key)
    unfolding found_after
    after-found = end-found (Above key) (λ end. end.high) (first_above (entries t) key) stands
        (λ end tells. sym (or-none (first_above (entries t) key)) ∙ tells)

  pub so-found : (ask : Ask) (end : Sought) → Tells ask (entries t) None None end
      → (IsSo (entries t) ask → IsSoAt ask end.met) × (IsSoAt ask end.met → IsSo (entries t) ask)
  so-found (Present e) end tells = (λ so. sym tells ∙ so, λ so. tells ∙ so)
  so-found (Absent key) end tells = (λ so. sym tells ∙ so, λ so. tells ∙ so)
  so-found (Below key) end tells = (λ so. tt, λ so. tt)
  so-found (Above key) end tells = (λ so. tt, λ so. tt)
