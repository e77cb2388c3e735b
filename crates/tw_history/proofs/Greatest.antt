-- The greatest steps of services, and what they tell of a thread.
use Rattle.std.proofs.Common.{◌≡◌, ◌≢◌, ◌↔◌, ◌⊎◌, ℕ, ◌≤◌, List, [], ◌∷◌, ◌++◌, refl, sym, subst, ◌∙◌, arith, inl, inr}
use Rattle.std.proofs.Common.{Option, Some, None, IsTrue, true, ltb}
use Rattle.std.specs.Prelude.{MatchOption, Result, Ok, Err, option_map, IfSome, OnOk}
use Rattle.std.specs.Option.{option_to_list}
use Rattle.tw_base.specs.declared.kinds.failure.NoMemory.{NoMemory}
use Rattle.std.specs.Ordering.{nat_cmp}
use Rattle.std.specs.declared.cmp.Ordering.{Ordering}
use Rattle.std.specs.declared.cmp.Ordering.TheVariants.{Less, Equal, Greater}
use Rattle.std.specs.Cmp.Lexicographic.{slice_cmp}
use Rattle.std.proofs.lemmas.Bool.{ltb-true, lt-ltb}
use Rattle.std.proofs.lemmas.Cmp.{nat_list_cmp_total, tied_itself}
use Rattle.std.proofs.lemmas.Map.Lookups.{exact_bytes}
use Rattle.tw_base.specs.declared.history.thread.Thread.{Thread}
use Rattle.tw_base.specs.declared.history.thread.Entry.{Entry}
use Rattle.tw_base.specs.kinds.Lists.{Each, In}
use Rattle.tw_base.proofs.lemmas.kinds.ListLemmas.{Each-append, Each-in, Each-map, In-left, In-right}
use Rattle.tw_history.specs.JudgingSteps.{IsGreatest, IsLater, greatest_of}
use Rattle.tw_history.specs.declared.soundness.greatest.GreatestSteps.{GreatestSteps}

abbrev Found : List Entry → (name : List ℕ) → Option ℕ → Type 0
Found es name o =
    MatchOption o (Each (λ e. e.thread.from ≢ name) es)
    (λ step. ((e : Entry) × In e es × (e.thread.from ≡ name) × (e.thread.step ≡ step)) × Each (λ e. e.thread.from ≡ name
    → e.thread.step ≤ step) es)

pub later-some : (es : List Entry) (g : List ℕ → Option ℕ) (t : Thread) (step : ℕ) → IsGreatest es g
    → g t.from ≡ Some step → IsTrue (ltb step t.step) ↔ IsLater t es
later-some es g t step greatest is =
    let found = subst (Found es t.from) is (greatest t.from) in
    let top = found.0 in (
      (λ less. Each-map _ _ es (λ e le same. omega (arith, le same, ltb-true step t.step less)) found.1),
      (λ all. lt-ltb step t.step (let lower = Each-in _ es top.0 all top.1 top.2 in omega (arith, lower, top.3))),
    )

pub later-none : (es : List Entry) (g : List ℕ → Option ℕ) (t : Thread) → IsGreatest es g → g t.from ≡ None
    → IsTrue true ↔ IsLater t es
later-none es g t greatest is = (
  (λ _. Each-map _ _ es (λ e differs same. absurd (differs same)) (subst (Found es t.from) is (greatest t.from))),
  (λ _. refl),
)

pub same_name : (one other : List ℕ) → (one ≡ other) ⊎ (one ≢ other)
same_name one other = by (slice_cmp nat_cmp one other) refl
  where
    differ : (o : Ordering) → slice_cmp nat_cmp one other ≡ o → o ≢ Equal → one ≢ other
    differ o is not e =
        not (sym is ∙ subst (λ x. slice_cmp nat_cmp one x ≡ Equal) e (tied_itself nat_list_cmp_total one))

    by : (o : Ordering) → slice_cmp nat_cmp one other ≡ o → (one ≡ other) ⊎ (one ≢ other)
    by Less is = inr (differ Less is (λ e. cc))
    by Equal is = inl (exact_bytes one other is)
    by Greater is = inr (differ Greater is (λ e. cc))

-- with one more entry, above the earlier ones of its service
pub IsGreatest-put : (es : List Entry) (g new : List ℕ → Option ℕ) (e : Entry) → IsGreatest es g → IsLater e.thread es
    → new e.thread.from ≡ Some e.thread.step → ((name : List ℕ) → name ≢ e.thread.from → new name ≡ g name)
    → IsGreatest (es ++ e ∷ []) new
IsGreatest-put es g new e greatest below here others name =
    elim (same_name name e.thread.from) [
      | inl same ↦ subst (Found (es ++ e ∷ []) name) (sym (subst (λ n. new n ≡ Some e.thread.step) (sym same) here)) (
        (e, In-right e es (e ∷ []) (inl refl), sym same, refl),
        Each-append _ es (e ∷ []) (Each-map _ _ es (λ f lower is. let less = lower (is ∙ same) in omega (arith, less))
            below) ((λ _. omega arith), tt),
      )
      | inr differs ↦ subst (Found (es ++ e ∷ []) name) (sym (others name differs))
          (more (g name) (greatest name) differs)
    ]
  where
    more : (o : Option ℕ) → Found es name o → name ≢ e.thread.from → Found (es ++ e ∷ []) name o
    more None all differs = Each-append _ es (e ∷ []) all ((λ is. differs (sym is)), tt)
    more (Some step) all differs = (
      (all.0.0, In-left all.0.0 es (e ∷ []) all.0.1, all.0.2, all.0.3),
      Each-append _ es (e ∷ []) all.1 ((λ is. absurd (differs (sym is))), tt),
    )

-- what `put` did is what `add` should
pub add-done : (r : Result (Unit {0}) NoMemory) (old new : GreatestSteps) (o : Option Thread) (t : Thread) → o ≡ Some t
    → OnOk r (greatest_of new t.from ≡ Some t.step) → OnOk r ((name : List ℕ) → name ≢ t.from → greatest_of new name
    ≡ greatest_of old name)
    → OnOk r ((es : List Entry) (archived : ℕ) → IsGreatest es (greatest_of old) → IfSome o (λ u. IsLater u es)
    → IsGreatest (es ++ option_to_list (option_map (λ u. record { thread = u; archived = archived }) o))
    (greatest_of new))
add-done (Ok done) old new o t is here others = λ es archived greatest later.
    subst (λ x. IsGreatest (es ++ option_to_list (option_map (λ u. record { thread = u; archived = archived }) x))
    (greatest_of new)) (sym is)
    (IsGreatest-put es (greatest_of old) (greatest_of new) (record { thread = t; archived = archived }) greatest
    (subst (λ x. IfSome x (λ u. IsLater u es)) is later) here others)
add-done (Err none) old new o t is here others = tt
