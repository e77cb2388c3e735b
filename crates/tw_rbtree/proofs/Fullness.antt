-- A tree of fewer than 2^40 entries is never full.
use Rattle.std.proofs.Common.{◌≡◌, ◌≢◌, ℕ, ◌+◌, ◌*◌, ◌^◌, ◌<◌, ◌≤◌, List, [], ◌∷◌, length, Bool, true, false, refl, sym}
use Rattle.std.proofs.Common.{ap, ◌∙◌, subst, arith, inl, inr}
use Rattle.std.specs.Prelude.{◌==◌, Option, None}
use Rattle.std.proofs.lemmas.Bool.{and_parts}
use Rattle.tw_base.specs.declared.history.root.Root.{Root}
use Rattle.tw_base.specs.declared.history.thread.Entry.{Entry}
use Rattle.tw_base.specs.declared.history.thread.Key.{Key}
use Rattle.tw_base.specs.declared.history.tree_proof.Ask.{Ask}
use Rattle.tw_base.specs.declared.history.tree_proof.Ask.TheVariants.{Absent}
use Rattle.tw_base.specs.history.Asking.{entry_with}
use Rattle.tw_base.specs.history.Tree.{Tree, entries}
use Rattle.tw_disk.specs.Found.Found.{Is}
use Rattle.tw_disk.specs.Image.{Image}
use Rattle.tw_disk.proofs.FoundLaws.{is_on, same_found}
use Rattle.tw_rbnode.specs.declared.limits.TheConstants.{MOST_KEYS, TOP_LEVEL}
use Rattle.tw_rbnode.specs.Page.{TreePage}
use Rattle.tw_rbtree.specs.Answers.{found_insert, insert_at, overflows}
use Rattle.tw_rbtree.specs.Growing.{all_full, is_full}
use Rattle.tw_rbtree.specs.Reading.{node_in}
use Rattle.tw_rbtree.specs.Standing.{IsRootTree, IsTreeBelow, IsTreePage, StandsForTree, any_page}
use Rattle.tw_rbtree.specs.Ways.{Stop, end_of_way, nowhere, way, way_from}
use Rattle.tw_rbtree.proofs.Keeping.{tree_page-as}
use Rattle.tw_rbtree.proofs.PageLaws.{root-is}
use Rattle.tw_rbtree.proofs.RootWays.{root-way}
use Rattle.tw_rbtree.proofs.SizeLaws.{page-count, below-count}
use Rattle.tw_rbtree.proofs.WayLaws.{on_way, way-empty, way-root}

module _ (dig : List ℕ → List ℕ) (ps : Image) where
  -- a full root page of this level
  full-count : (level page : ℕ) (t : Tree) → (is : IsTreePage dig any_page ps (IsTreeBelow dig any_page ps level) level
      1 page t) → length is.node.entries ≡ 24 → 25 * 13 ^ level ≤ length (entries t) + 1
  full-count level page t is full =
      page-count dig ps (IsTreeBelow dig any_page ps level) (13 ^ level) level 24 page t (below-count dig ps level)
      (tree_page-as is (omega (arith, full)) is.at is.are_trees is.has)

  -- a way that overflows begins in a full page of the greatest level
  first-full : (root : Root) (ask : Ask) (p : TreePage) (stops : List Stop) → way dig ps ask root ≡ Is stops
      → root.page ≢ 0 → node_in dig ps root.page ≡ Is p → overflows stops ≡ true → (p.level ≡ 10)
      × (length p.entries ≡ 24)
  first-full root ask p stops found some first over =
      let starts = on_way dig ps ask (λ (xs : List Stop). Is (first_page xs)) (λ (xs : List Stop). Is p) p.level None
      None p (λ xs. refl) in
      let on : way_from dig ps ask p.level None None p ≡ Is stops =
      sym (way-root dig ps ask root some ∙ is_on (node_in dig ps root.page) (λ q. way_from dig ps ask q.level None None
      q) p first) ∙ found in
      let page : first_page stops ≡ p =
      same_found (first_page stops) p (sym (is_on (way_from dig ps ask p.level None None p)
      (λ (xs : List Stop). Is (first_page xs)) stops on) ∙ starts ∙ is_on (way_from dig ps ask p.level None None p)
      (λ (xs : List Stop). Is p) stops on) in
      subst (λ (q : TreePage). (q.level ≡ 10) × (length q.entries ≡ 24)) page (by stops over)
    where
      first_page : List Stop → TreePage
      first_page [] = p
      first_page (s ∷ xs) = s.page

      level_is : (n : ℕ) → (n == TOP_LEVEL) ≡ true → n ≡ 10
      level_is n e = grind arith

      keys_are : (n : ℕ) → (n == MOST_KEYS) ≡ true → n ≡ 24
      keys_are n e = grind arith

      head_full : (s : Stop) (xs : List Stop) → all_full (s ∷ xs) ≡ true → is_full s.page ≡ true
      head_full s [] full = full
      head_full s (r ∷ xs) full = (and_parts (all_full (r ∷ xs)) (is_full s.page) full).1

      by : (xs : List Stop) → overflows xs ≡ true → ((first_page xs).level ≡ 10) × (length (first_page xs).entries ≡ 24)
      by [] e = cc
      by (s ∷ xs) e =
          let parts = and_parts (all_full (s ∷ xs)) (s.page.level == TOP_LEVEL) e in
          (level_is s.page.level parts.1, keys_are (length s.page.entries) (head_full s xs parts.0))

  never-full : (root : Root) (t : Tree) (ask : Ask) (stops : List Stop) → StandsForTree dig ps root t
      → length (entries t) < 2 ^ 40 → way dig ps ask root ≡ Is stops → overflows stops ≡ true → ⊥
  never-full root t ask stops stands few found over = by stands.tree
    where
      by : IsRootTree dig any_page ps root.page t → ⊥
      by (inl none) =
          let same : [] ≡ stops = same_found [] stops (sym (way-empty dig ps ask root none.0) ∙ found) in
          let wrong : overflows [] ≡ true = ap overflows same ∙ over in cc
      by (inr (level, is)) =
          let first = first-full root ask is.node stops found (λ (e : root.page ≡ 0). omega (arith, e, is.at.low))
          (root-is dig ps root.page is.node is.at) over in
          let top : level ≡ 10 = omega (arith, first.0, is.level_is) in
          let count : 25 * 13 ^ 10 ≤ length (entries t) + 1 = subst (λ (n : ℕ). 25 * 13 ^ n ≤ length (entries t) + 1)
          top (full-count level root.page t is first.1) in
          omega (arith, count, few)

  -- so an insert finds the key there, or a new root
  pub insert-finds : (root : Root) (t : Tree) (key : Key) → StandsForTree dig ps root t → length (entries t) < 2 ^ 40
      → found_insert dig ps root key ≡ insert_at root (entry_with (entries t) key) false
  unfolding found_insert
  insert-finds root t key stands few =
      let w = root-way dig ps (Absent key) root t stands in
      is_on (way dig ps (Absent key) root) (λ stops. insert_at root (end_of_way nowhere stops).met (overflows stops))
      w.stops w.found
      ∙ ap (λ (b : Bool). insert_at root (end_of_way nowhere w.stops).met b) (not_over (overflows w.stops) refl)
      ∙ ap (λ (o : Option Entry). insert_at root o false) (sym w.tells)
    where
      not_over : (b : Bool) → overflows (root-way dig ps (Absent key) root t stands).stops ≡ b → b ≡ false
      not_over false e = refl
      not_over true e = absurd (never-full root t (Absent key) (root-way dig ps (Absent key) root t stands).stops stands
          few (root-way dig ps (Absent key) root t stands).found e)
