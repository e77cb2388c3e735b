-- The trees of a history: their entries are steps' threads, and in a sound history they rise.
use Rattle.std.proofs.Common.{◌≡◌, ℕ, suc, zero, ◌<◌, ◌≤◌, List, [], ◌∷◌, ◌++◌, length, get_or, refl, ap, ◌∙◌, subst}
use Rattle.std.proofs.Common.{arith, Bool, true, false}
use Rattle.std.specs.Prelude.{Option, Some, None, option_and_then, IfSome, nat_le, if◌then◌else◌}
use Rattle.std.proofs.lemmas.Bool.{leb-true}
use Rattle.std.proofs.lemmas.Option.{slice_get_within}
use Rattle.tw_base.specs.declared.history.thread.Thread.{Thread}
use Rattle.tw_base.specs.declared.history.thread.Entry.{Entry}
use Rattle.tw_base.specs.kinds.Lists.{Each}
use Rattle.tw_base.specs.history.Entries.{IsFit}
use Rattle.tw_base.specs.history.History.{History, Step, Node, entry_at, entry_to, fresh_of, root_of, step_at}
use Rattle.tw_base.specs.history.History.{thread_of}
use Rattle.tw_base.specs.history.Tree.{Tree, branch, entries, forest, new_trees, planted, tree, IsRising, IsRisingTree}
use Rattle.tw_base.specs.history.Tree.Tree.{Empty}
use Rattle.tw_base.specs.history.Limits.{IsThread, IsWithinLimits}
use Rattle.tw_base.specs.history.Rules.Rule.{TreesRise}
use Rattle.tw_base.specs.history.Sound.{IsSound}
use Rattle.tw_base.specs.declared.history.content.Content.{Content}
use Rattle.tw_base.specs.declared.history.content.Content.TheVariants.{Events, Received}
use Rattle.tw_base.proofs.lemmas.kinds.ListLemmas.{Each-append, Each-get_or, Each-map}
use Rattle.tw_base.proofs.lemmas.kinds.Naming.{IsName-bytes}

-- an entry of the steps up to i is one of a step at or below i
pub entry_to-at : (h : History) (i k : ℕ) (e : Entry) → entry_to h i k ≡ Some e → (k ≤ i) × (entry_at h k ≡ Some e)
unfolding entry_to
entry_to-at h i k e at =
    let cases : (b : Bool) → nat_le k i ≡ b → (if b then entry_at h k else None) ≡ Some e
    → (k ≤ i) × (entry_at h k ≡ Some e) =
    elim [
      | true ↦ λ test is. (leb-true k i test, is)
      | false ↦ λ test is. cc
    ]
    in cases (nat_le k i) refl at

-- step k received the entry's thread, k at most i
abbrev pub IsArchived : History → ℕ → Entry → Type 0
IsArchived h i e = (k : ℕ) × (k ≤ i) × (entry_at h k ≡ Some e)

module _ (h : History) where
  abbrev Archived : ℕ → Tree → Type 0
  Archived i t = Each (IsArchived h i) (entries t)

  abbrev Rises : Tree → Type 0
  Rises t = IsRising (entries t)

  branch-archived : (i k : ℕ) (e : Option Entry) (l r : Tree) → entry_to h i k ≡ e → Archived i l → Archived i r
      → Archived i (branch e l r)
  branch-archived i k None l r at left right = tt
  branch-archived i k (Some e) l r at left right =
      let is = entry_to-at h i k e at in Each-append (IsArchived h i) (entries l) (e ∷ entries r) left
      ((k, is.0, is.1), right)

  planted-archived : (i : ℕ) (trees : List Tree) (ns : List Node) → Each (Archived i) trees
      → Each (Archived i) (planted (entry_to h i) trees ns)
  unfolding planted
  planted-archived i trees [] all = tt
  planted-archived i trees (n ∷ ns) all =
      let t : Tree = branch (entry_to h i n.entry) (get_or trees n.left Empty) (get_or trees n.right Empty) in
      let here : Archived i t = branch-archived i n.entry (entry_to h i n.entry) _ _ refl
      (Each-get_or (Archived i) trees n.left Empty tt all) (Each-get_or (Archived i) trees n.right Empty tt all) in
      (here, planted-archived i (trees ++ t ∷ []) ns (Each-append (Archived i) trees (t ∷ []) all (here, tt)))

  later : (i : ℕ) (t : Tree) → Archived i t → Archived (suc i) t
  later i t all = Each-map (IsArchived h i) (IsArchived h (suc i)) (entries t) (λ e a. (a.0, omega (arith, a.1), a.2))
      all

  forest-archived : (i : ℕ) → Each (Archived i) (forest h i)
  unfolding forest
  forest-archived zero = (tt, tt)
  forest-archived (suc i) =
      let before = Each-map (Archived i) (Archived (suc i)) (forest h i) (later i) (forest-archived i) in
      Each-append (Archived (suc i)) (forest h i) (new_trees h i) before
      (planted-archived (suc i) (forest h i) (fresh_of (step_at h (suc i))) before)

  forest-rises : IsSound h → (i : ℕ) → Each Rises (forest h i)
  unfolding forest planted
  forest-rises sound zero = (tt, tt)
  forest-rises sound (suc i) = Each-append Rises (forest h i) (new_trees h i) (forest-rises sound i)
      (news (step_at h (suc i)) refl)
    where
      news : (s : Option Step) → step_at h (suc i) ≡ s
          → Each Rises (planted (entry_to h (suc i)) (forest h i) (fresh_of s))
      news None e = tt
      news (Some s) e = subst (λ o. Each Rises (planted (entry_to h (suc i)) (forest h i) (fresh_of o))) e
          ((sound.steps i s e).rules TreesRise)

  -- each entry of the archive after step i is the thread of a step at or below i
  pub tree-archived : (i : ℕ) → Each (IsArchived h i) (entries (tree h i))
  unfolding tree
  tree-archived i = Each-get_or (Archived i) (forest h i) (root_of (step_at h i)) Empty tt (forest-archived i)

  pub tree-rises : IsSound h → (i : ℕ) → IsRising (entries (tree h i))
  unfolding tree
  tree-rises sound i = Each-get_or Rises (forest h i) (root_of (step_at h i)) Empty tt (forest-rises sound i)

  -- what a step received, and which step it is
  pub entry_at-parts : (k : ℕ) (e : Entry) → entry_at h k ≡ Some e → (k ≡ e.archived)
      × (thread_of (step_at h k) ≡ Some e.thread)
  entry_at-parts k e at = by (thread_of (step_at h k)) refl at
    where
      by : (t : Option Thread) → thread_of (step_at h k) ≡ t → option_and_then
          (λ (u : Thread). Some (record { thread = u; archived = k })) t ≡ Some e → (k ≡ e.archived)
          × (thread_of (step_at h k) ≡ Some e.thread)
      by None is made = cc
      by (Some t) is made = let same : record { thread = t; archived = k } ≡ e = cc in
          (ap (λ (x : Entry). x.archived) same, is ∙ ap (λ (x : Entry). Some x.thread) same)

  -- a thread that a step within the limits received is one
  thread-within : (s : Step) → IsWithinLimits s.content → IfSome (thread_of (Some s)) IsThread
  thread-within s limits = by s.content limits
    where
      by : (c : Content) → IsWithinLimits c
          → IfSome (thread_of (Some (record { content = c; time = s.time; fresh = s.fresh; root = s.root }))) IsThread
      by (Events events) all = tt
      by (Received t) is = is

  pub received-sound : IsSound h → (k : ℕ) (t : Thread) → thread_of (step_at h k) ≡ Some t → IsThread t × (0 < k)
      × (k ≤ length h.steps)
  received-sound sound zero t at = cc
  received-sound sound (suc j) t at = by (step_at h (suc j)) refl at
    where
      by : (s : Option Step) → step_at h (suc j) ≡ s → thread_of s ≡ Some t → IsThread t × (0 < suc j)
          × (suc j ≤ length h.steps)
      by None is got = cc
      by (Some s) is got =
          let rule = subst (λ o. IfSome o IsThread) got (thread-within s (sound.steps j s is).limits) in
          let within = slice_get_within h.steps j s is in
          (rule, omega arith, omega (arith, within))

  pub archived-fit : IsSound h → (i : ℕ) (e : Entry) → IsArchived h i e → IsFit e
  archived-fit sound i e a =
      let parts = entry_at-parts a.0 e a.2 in
      let got = received-sound sound a.0 e.thread parts.1 in
      let small = sound.length in
      record {
        from = IsName-bytes e.thread.from got.0.0;
        step = omega (arith, got.0.2);
        auth = (got.0.3, got.0.4);
        archived = omega (arith, got.2, parts.0, small);
      }

  -- the entries of each new tree of a sound history are fit
  pub new_trees-fit : IsSound h → (i : ℕ) → Each (λ t. Each IsFit (entries t)) (new_trees h i)
  new_trees-fit sound i =
      let before = Each-map (Archived i) (Archived (suc i)) (forest h i) (later i) (forest-archived i) in
      Each-map (Archived (suc i)) (λ t. Each IsFit (entries t)) (new_trees h i)
      (λ t all. Each-map (IsArchived h (suc i)) IsFit (entries t) (archived-fit sound (suc i)) all)
      (planted-archived (suc i) (forest h i) (fresh_of (step_at h (suc i))) before)

  -- each archive of a sound history is a rising tree
  pub tree-rising : IsSound h → (i : ℕ) → IsRisingTree (tree h i)
  tree-rising sound i =
      record {
        rising = tree-rises sound i;
        fits = Each-map (IsArchived h i) IsFit (entries (tree h i)) (archived-fit sound i) (tree-archived i);
      }
