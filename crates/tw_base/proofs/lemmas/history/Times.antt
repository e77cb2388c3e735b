-- The times of a sound history don't fall.
use Rattle.std.proofs.Common.{◌≡◌, ℕ, suc, zero, ◌≤◌, ap, sym, ◌∙◌, subst, arith, inl, inr, refl}
use Rattle.std.specs.Prelude.{Option, Some, None, IfSome}
use Rattle.std.specs.Option.{option_to_list}
use Rattle.std.proofs.lemmas.Bool.{cases_lt}
use Rattle.tw_base.specs.history.History.{History, Step, step_at, time_at, time_of, times}
use Rattle.tw_base.specs.kinds.Lists.{Each, In}
use Rattle.tw_base.specs.history.Rules.Rule.{TimesDontFall}
use Rattle.tw_base.specs.history.Sound.{IsSound}
use Rattle.tw_base.proofs.lemmas.kinds.ListLemmas.{Each-in, In-left, In-right}

module _ (h : History) where
  -- the time of a step is among those of the steps up to it or a later one
  pub times-has : (i k t : ℕ) → k ≤ i → time_at h k ≡ Some t → In t (times h i)
  unfolding times
  times-has zero zero t l at = cc
  times-has zero (suc k) t l at = absurd (omega arith)
  times-has (suc i) k t l at =
      elim (cases_lt i k) [
        | inr before ↦ In-left t (times h i) _ (times-has i k t before at)
        | inl last ↦ (
            let same : k ≡ suc i = omega arith in
            let here : time_at h (suc i) ≡ Some t = rw same at at in
            let P : Option ℕ → Type 0 = λ o. In t (option_to_list o) in
            In-right t (times h i) _ (subst P (sym here) (inl refl)))
      ]

  pub times-order : IsSound h → (i j earlier later : ℕ) → i ≤ j → time_at h i ≡ Some earlier → time_at h j ≡ Some later
      → earlier ≤ later
  times-order sound i zero earlier later l at at' = cc
  times-order sound i (suc j) earlier later l at at' =
      elim (cases_lt j i) [
        | inl last ↦ (
            let same : i ≡ suc j = omega arith in
            let both : Some earlier ≡ Some later = sym at ∙ ap (time_at h) same ∙ at' in
            let e : earlier ≡ later = cc in
            omega (arith, e))
        | inr before ↦ by before (step_at h (suc j)) refl at'
      ]
    where
      by : i ≤ j → (r : Option Step) → step_at h (suc j) ≡ r → time_of r ≡ Some later → earlier ≤ later
      by before None e time = cc
      by before (Some s) e time =
          let rule = (sound.steps j s e).rules TimesDontFall in
          let P : Option ℕ → Type 0 = λ o. IfSome o (λ t. Each (λ u. u ≤ t) (times h j)) in
          Each-in (λ u. u ≤ later) (times h j) earlier (subst P time rule) (times-has j i earlier before at)
