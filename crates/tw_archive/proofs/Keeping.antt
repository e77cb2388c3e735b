-- Pages that keep the trees of a history's steps keep them as more pages and one more step come.
use Rattle.std.proofs.Common.{◌≡◌, ℕ, suc, zero, ◌+◌, ◌<◌, ◌≤◌, List, [], ◌∷◌, ◌++◌, length, refl, ap, sym, ◌∙◌, subst}
use Rattle.std.proofs.Common.{arith, inl, inr, length-append}
use Rattle.std.specs.Prelude.{map}
use Rattle.std.proofs.lemmas.Bool.{cases_lt}
use Rattle.tw_base.specs.declared.history.root.Root.{Root}
use Rattle.tw_base.specs.history.Auth.{tree_label}
use Rattle.tw_base.specs.history.History.{History, Node, Step, entry_to, fresh_of, plus, root_of, step_at, thread_of}
use Rattle.tw_base.specs.history.Tree.{IsRising, Tree, entries, forest, new_trees, tree}
use Rattle.tw_base.proofs.lemmas.history.Plus.{forest-plus, step_at-plus, tree-first, tree-plus}
use Rattle.tw_disk.specs.Found.Found.{Is}
use Rattle.tw_disk.specs.Image.{Image}
use Rattle.tw_rbtree.specs.declared.new_node.NewNode.{NewNode}
use Rattle.tw_rbtree.specs.Listing.{listed}
use Rattle.tw_rbtree.specs.Standing.{HasNamed, Named, StandsWith}
use Rattle.tw_rbtree.proofs.Keeping.{stands-kept}
use Rattle.tw_archive.specs.Archives.{Agree, KeepsTree, KeepsTrees, named_at, named_by}
use Rattle.tw_archive.specs.Numbering.{Numbered, history_node, archive_new_nodes, nodes_in, number_of_page}
use Rattle.tw_archive.specs.Numbering.{numbered_archive, numbered_on, new_from}
use Rattle.tw_archive.proofs.Listings.{listed-more}
use Rattle.tw_archive.proofs.Planted.{length-planted}

-- pages that stand for a tree with named trees still do with others behind them
pub kept-named : (dig : List ℕ → List ℕ) (ps more : Image) (named : Named) (root : Root) (t : Tree)
    → StandsWith dig (HasNamed named) ps root t → StandsWith dig (HasNamed named) (ps ++ more) root t
kept-named dig ps more named root t stands = stands-kept dig (HasNamed named) ps more root t stands

map-length : {X Y : Type 0} (f : X → Y) (xs : List X) → length (map f xs) ≡ length xs
map-length f [] = refl
map-length f (x ∷ xs) = ap suc (map-length f xs)

module _ (dig : List ℕ → List ℕ) (ps : Image) (h : History) (step_page : ℕ → ℕ) (archive : ℕ → Root)
    (keeps : KeepsTrees dig ps h step_page archive) where
  abbrev Before : ℕ → Numbered
  Before k = numbered_archive dig ps step_page archive k

  -- as many nodes are numbered as the history has
  pub forest-count : (k : ℕ) → k ≤ length h.steps → length (forest h k) ≡ (Before k).count + 1
  unfolding forest numbered_archive
  forest-count zero within = refl
  forest-count (suc k) within =
      let nodes : List NewNode = archive_new_nodes dig ps step_page archive k in
      let new : length (new_trees h k) ≡ length nodes =
      length-planted (entry_to h (suc k)) (forest h k) (fresh_of (step_at h (suc k)))
      ∙ ap (λ (ns : List Node). length ns) (keeps.trees k within).fresh
      ∙ map-length (history_node (Before k).pages (Before k).count) nodes in
      let all = length-append (forest h k) (new_trees h k) in
      let so_far = forest-count k (omega (arith, within)) in
      omega (arith, all, so_far, new)

  -- the pages stand for the tree after each step, and before the first one for the empty one, where that has its label
  pub stands-at : (k : ℕ) → k ≤ length h.steps → (k ≡ 0 → (archive 0).label ≡ tree_label dig (tree h 0))
      → StandsWith dig (HasNamed (named_at dig ps h step_page archive k)) ps (archive k) (tree h k)
  stands-at zero within label = record {
    rising = subst (λ (t : Tree). IsRising (entries t)) (sym (tree-first h)) tt;
    label = label refl;
    tree = inl (keeps.nowhere, tree-first h);
  }
  stands-at (suc k) within label = (keeps.trees k within).stands

  module _ (more : Image) (next_page : ℕ → ℕ) (next_archive : ℕ → Root) (pages_same : Agree (length h.steps) step_page
      next_page) (roots_same : Agree (length h.steps) archive next_archive) where
    pub next-from : (k : ℕ) → k ≤ length h.steps → new_from next_page k ≡ new_from step_page k
    next-from zero within = refl
    next-from (suc k) within = ap suc (sym (pages_same (suc k) within))

    listed-next : (k : ℕ) → k < length h.steps → listed dig (ps ++ more) (new_from next_page k) (next_archive (suc k))
        ≡ Is (archive_new_nodes dig ps step_page archive k)
    listed-next k less =
        (λ i. listed dig (ps ++ more) (next-from k (omega (arith, less)) i)
        (sym (roots_same (suc k) (omega (arith, less))) i))
        ∙ listed-more dig ps more (new_from step_page k) (archive (suc k)) (archive_new_nodes dig ps step_page archive
        k) (keeps.trees k less).lists

    new-next : (k : ℕ) → k < length h.steps → archive_new_nodes dig (ps ++ more) next_page next_archive k
        ≡ archive_new_nodes dig ps step_page archive k
    new-next k less = ap nodes_in (listed-next k less)

    pub numbered-next : (k : ℕ) → k ≤ length h.steps → numbered_archive dig (ps ++ more) next_page next_archive k
        ≡ Before k
    unfolding numbered_archive
    numbered-next zero within = refl
    numbered-next (suc k) within = λ i. numbered_on (numbered-next k (omega (arith, within)) i) (new-next k within i)

    named-next : (s : Step) (k : ℕ) → k ≤ length h.steps → named_at dig ps h step_page archive k ≡ named_at dig
        (ps ++ more) (plus h s) next_page next_archive k
    named-next s k within = λ i. named_by (sym (numbered-next k within) i).pages (sym (forest-plus h s k within) i)
        (sym (next-from k within) i)

    module _ (s : Step) (kept_named : (named : Named) (root : Root) (t : Tree) → StandsWith dig (HasNamed named) ps root
        t → StandsWith dig (HasNamed named) (ps ++ more) root t) where
      pub stands-next : (k : ℕ) → k ≤ length h.steps → (root : Root) (t : Tree)
          → StandsWith dig (HasNamed (named_at dig ps h step_page archive k)) ps root t
          → StandsWith dig (HasNamed (named_at dig (ps ++ more) (plus h s) next_page next_archive k)) (ps ++ more)
          root t
      stands-next k within root t stands =
          subst (λ (n : Named). StandsWith dig (HasNamed n) (ps ++ more) root t) (named-next s k within)
          (kept_named (named_at dig ps h step_page archive k) root t stands)

      earlier : (k : ℕ) → k < length h.steps → KeepsTree dig (ps ++ more) (plus h s) next_page next_archive k
      earlier k less =
          let old = keeps.trees k less in
          let within : k ≤ length h.steps = omega (arith, less) in
          let step : step_at (plus h s) (suc k) ≡ step_at h (suc k) = step_at-plus h s (suc k) less in
          let root : archive (suc k) ≡ next_archive (suc k) = roots_same (suc k) less in
          record {
            of_events = λ none. (let was = old.of_events (ap thread_of (sym step) ∙ none) in (
              ap (λ (r : Root). r.page) (sym root) ∙ was.0 ∙ ap (λ (r : Root). r.page) (roots_same k within),
              ap fresh_of step ∙ was.1,
            ));
            lists = listed-next k less ∙ ap (λ (ns : List NewNode). Is ns) (sym (new-next k less));
            fresh = ap fresh_of step ∙ old.fresh
                ∙ (λ i. map (history_node (sym (numbered-next k within) i).pages (sym (numbered-next k within) i).count)
                (sym (new-next k less) i));
            root = ap root_of step ∙ old.root ∙ (λ i. number_of_page (sym (numbered-next (suc k) less) i).pages
                (root i).page);
            stands = subst (λ (r : Root). StandsWith dig
                (HasNamed (named_at dig (ps ++ more) (plus h s) next_page next_archive (suc k))) (ps ++ more) r
                (tree (plus h s) (suc k))) root
                (subst (λ (t : Tree). StandsWith dig (HasNamed (named_at dig (ps ++ more) (plus h s) next_page
                next_archive (suc k))) (ps ++ more) (archive (suc k)) t) (sym (tree-plus h s (suc k) less))
                (stands-next (suc k) less (archive (suc k)) (tree h (suc k)) old.stands));
          }

      -- with the next step's tree the pages keep all of them
      pub keeps-on : KeepsTree dig (ps ++ more) (plus h s) next_page next_archive (length h.steps)
          → KeepsTrees dig (ps ++ more) (plus h s) next_page next_archive
      keeps-on last = record {
        nowhere = ap (λ (r : Root). r.page) (sym (roots_same 0 (omega arith))) ∙ keeps.nowhere;
        trees = λ k less. elim (cases_lt k (length h.steps)) [
          | inl before ↦ earlier k before
          | inr past ↦ (let count : length (h.steps ++ s ∷ []) ≡ suc (length h.steps) = length-append h.steps (s ∷ [])
              ∙ (let e : length h.steps + 1 ≡ suc (length h.steps) = omega arith in e) in
              let here : length h.steps ≡ k = omega (arith, past, less, count) in
              subst (λ (j : ℕ). KeepsTree dig (ps ++ more) (plus h s) next_page next_archive j) here last)
        ];
      }
