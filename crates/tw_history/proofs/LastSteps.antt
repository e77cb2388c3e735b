-- Of each level the last step so far that its power of two divides.
use Rattle.std.proofs.Common.{◌≡◌, ◌≢◌, ℕ, suc, ◌-◌, ◌<◌, ◌≤◌, ◌^◌, ◌%◌, lit<, ap, ◌∙◌, inl, inr, arith}
use Rattle.std.proofs.Math.Nat.{mod-eq_of_lt, mod-lt, mod_self, one-le-pow, suc-mod}
use Rattle.std.proofs.lemmas.Bool.{cases_lt}
use Rattle.tw_base.specs.kinds.Levels.{top_level}
use Rattle.tw_base.proofs.lemmas.kinds.Levels.{divides-less, top_level-divides, top_level-greatest}

-- where the next number is divided, this one's remainder is the greatest
greatest_rest : (i d : ℕ) → 0 < d → suc i % d ≡ 0 → suc (i % d) ≡ d
greatest_rest i d some divides =
    elim (cases_lt (suc (i % d)) d) [
      | inl less ↦ (let more : suc i % d ≡ suc (i % d) = suc-mod i d ∙ mod-eq_of_lt less in
          absurd (omega (arith, divides, more)))
      | inr past ↦ omega (arith, past, mod-lt i some)
    ]

-- and else its remainder is one more
next_rest : (i d : ℕ) → 0 < d → suc i % d ≢ 0 → suc i % d ≡ suc (i % d)
next_rest i d some not =
    elim (cases_lt (suc (i % d)) d) [
      | inl less ↦ suc-mod i d ∙ mod-eq_of_lt less
      | inr past ↦ (
          let all : suc (i % d) ≡ d = omega (arith, past, mod-lt i some) in
          absurd (not (suc-mod i d ∙ ap (λ k. k % d) all ∙ mod_self d)))
    ]

some_power : (level : ℕ) → 0 < 2 ^ level
some_power level = one-le-pow level 2 (lit< tt)

module _ (i level : ℕ) (small : suc i < 2 ^ 64) where
  divides-to : level ≤ top_level (suc i) → suc i % 2 ^ level ≡ 0
  divides-to within = divides-less (suc i) (top_level (suc i)) level within (top_level-divides (suc i) (omega arith)
      small)

  -- the link of the next step leads to the last step so far
  pub last-reached : level ≤ top_level (suc i) → i - i % 2 ^ level ≡ suc i - 2 ^ level
  last-reached within = omega (arith, greatest_rest i (2 ^ level) (some_power level) (divides-to within))

  -- the next step is the last one at its own levels
  pub last-own : level ≤ top_level (suc i) → suc i - suc i % 2 ^ level ≡ suc i
  last-own within = omega (arith, divides-to within)

  -- and at the others the last one stays
  pub last-kept : top_level (suc i) < level → suc i - suc i % 2 ^ level ≡ i - i % 2 ^ level
  last-kept above =
      let not : suc i % 2 ^ level ≢ 0 = λ divides. absurd (let within : level ≤ top_level (suc i) =
      top_level-greatest (suc i) level (omega arith) small divides in omega (arith, above, within)) in
      omega (arith, next_rest i (2 ^ level) (some_power level) not)
