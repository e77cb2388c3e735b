-- The archive of a sound history has exactly the threads received so far.
use Rattle.std.proofs.Common.{◌≡◌, ℕ, suc, zero, ◌≤◌, List, [], ◌∷◌, length, refl, ap, sym, ◌∙◌, subst, arith, inl}
use Rattle.std.proofs.Common.{inr}
use Rattle.std.specs.Prelude.{Option, Some, None, slice_get}
use Rattle.std.specs.Option.{option_to_list}
use Rattle.std.proofs.lemmas.Bool.{cases_lt}
use Rattle.std.proofs.lemmas.Option.{slice_get_cases}
use Rattle.tw_base.specs.declared.history.thread.Entry.{Entry}
use Rattle.tw_base.specs.kinds.Lists.{In}
use Rattle.tw_base.specs.history.Entries.{KeyBelow, key_of}
use Rattle.tw_base.specs.history.History.{History, Step, entry_at, received, step_at}
use Rattle.tw_base.specs.history.Tree.{entries, forest, tree, IsRising}
use Rattle.tw_base.specs.history.Rules.Rule.{HoldsAllThreads}
use Rattle.tw_base.specs.history.Sound.{IsSound}
use Rattle.tw_base.proofs.lemmas.history.Keys.{KeyBelow-irrefl}
use Rattle.tw_base.proofs.lemmas.kinds.ListLemmas.{Apart, Each-in, Each-map, In-cases_append, In-left, In-right}
use Rattle.tw_base.proofs.lemmas.kinds.ListLemmas.{pigeonhole}
use Rattle.tw_base.proofs.lemmas.history.Trees.{IsArchived, tree-archived, tree-rises}

rising-apart : (es : List Entry) → IsRising es → Apart es
rising-apart [] rising = tt
rising-apart (e ∷ es) rising = (
  Each-map _ _ es (λ f below same. KeyBelow-irrefl (key_of f) (subst (λ x. KeyBelow (key_of x) (key_of f)) same below))
      rising.0,
  rising-apart es rising.1,
)

-- each thread received up to step i is in the list
pub received-has : (h : History) (i k : ℕ) (e : Entry) → k ≤ i → entry_at h k ≡ Some e → In e (received h i)
unfolding received
received-has h zero k e within at = let zeroth : k ≡ zero = omega arith in let none : entry_at h zero ≡ Some e =
    subst (λ n. entry_at h n ≡ Some e) zeroth at in cc
received-has h (suc i) k e within at =
    elim (cases_lt i k) [
      | inl more ↦ (let last : k ≡ suc i = omega arith in
          let here : entry_at h (suc i) ≡ Some e = subst (λ n. entry_at h n ≡ Some e) last at in
          In-right e (received h i) _ (subst (λ o. In e (option_to_list o)) (sym here) (inl refl)))
      | inr less ↦ In-left e (received h i) _ (received-has h i k e less at)
    ]

module _ (h : History) (sound : IsSound h) where
  same_length : (i : ℕ) → i ≤ length h.steps → length (entries (tree h i)) ≡ length (received h i)
  unfolding received tree forest
  same_length zero within = refl
  same_length (suc i) within = by (step_at h (suc i)) refl
    where
      by : (s : Option Step) → step_at h (suc i) ≡ s → length (entries (tree h (suc i))) ≡ length (received h (suc i))
      by None none = elim ((slice_get_cases h.steps i).1) [
        | inl there ↦ (let some : slice_get h.steps i ≡ Some there.0 = there.2 in let never : None ≡ Some there.0 =
            sym none ∙ some in cc)
        | inr past ↦ absurd (omega (arith, past.0))
      ]
      by (Some s) is = (sound.steps i s is).rules HoldsAllThreads

  -- the archive after step i has what was received up to step i
  pub tree-has : (i k : ℕ) (e : Entry) → i ≤ length h.steps → k ≤ i → entry_at h k ≡ Some e → In e (entries (tree h i))
  tree-has i k e inside within at =
      pigeonhole (entries (tree h i)) (received h i) (rising-apart _ (tree-rises h sound i))
      (Each-map _ _ (entries (tree h i)) (λ f a. received-has h i a.0 f a.1 a.2) (tree-archived h i))
      (same_length i inside) e (received-has h i k e within at)

-- what the list has was received at or below step i
received-archived : (h : History) (i : ℕ) (e : Entry) → In e (received h i) → IsArchived h i e
unfolding received
received-archived h zero e has = absurd has
received-archived h (suc i) e has =
    elim (In-cases_append e (received h i) (option_to_list (entry_at h (suc i))) has) [
      | inl old ↦ (let at = received-archived h i e old in (at.0, omega (arith, at.1), at.2))
      | inr new ↦ (suc i, omega arith, here (entry_at h (suc i)) refl new)
    ]
  where
    here : (o : Option Entry) → entry_at h (suc i) ≡ o → In e (option_to_list o) → entry_at h (suc i) ≡ Some e
    here None is p = absurd p
    here (Some f) is (inl q) = is ∙ ap (λ (x : Entry). Some x) (sym q)
    here (Some f) is (inr q) = absurd q

-- and the archive after step i has what was received so far
pub tree-has_received : (h : History) → IsSound h → (i : ℕ) → i ≤ length h.steps → (e : Entry) → In e (received h i)
    → In e (entries (tree h i))
tree-has_received h sound i inside e has = let at = received-archived h i e has in tree-has h sound i at.0 e inside at.1
    at.2

-- and nothing else
pub tree-only_received : (h : History) (i : ℕ) (e : Entry) → In e (entries (tree h i)) → In e (received h i)
tree-only_received h i e has =
    let at = Each-in (IsArchived h i) (entries (tree h i)) e (tree-archived h i) has in received-has h i at.0 e at.1
    at.2
