-- The parts of a text, one after another.
use Rattle.std.proofs.Common.{◌≡◌, ℕ, suc, ◌+◌, ◌-◌, ◌≤◌, List, [], ◌∷◌, length, take, drop, position, Bool, true}
use Rattle.std.proofs.Common.{false, cond, Some, None, nat_lt, ap, subst, sym, ◌∙◌, refl, inl, inr, arith, le-leb}
use Rattle.std.proofs.Common.{leb-true}
use Rattle.std.specs.List.{position_or_len, slice_split}
use Rattle.std.proofs.lemmas.Bool.{cases_lt}
use Rattle.std.proofs.Math.Seq.{take-length}
use Rattle.std.proofs.lemmas.List.{length-drop}
use Rattle.std.proofs.lemmas.List.Splits.{length-slice_split, slice_split_first, slice_split_none}
use Rattle.std.proofs.lemmas.List.Sums.{count_by-le-length, fails_before_first}
use Rattle.tw_script.specs.Takings.{parts_left}

module _ (p : ℕ → Bool) (xs : List ℕ) where
  -- up to the first separator
  pub split-some : (i : ℕ) → position p xs ≡ Some i → slice_split p xs ≡ take i xs ∷ slice_split p (drop (i + 1) xs)
  split-some i at = by (nat_lt (position_or_len p xs) (length xs)) refl at
    where
      by : (b : Bool) → nat_lt (position_or_len p xs) (length xs) ≡ b → cond b (Some (position_or_len p xs)) None
          ≡ Some i
          → slice_split p xs ≡ take i xs ∷ slice_split p (drop (i + 1) xs)
      by true below some =
          let place : position_or_len p xs ≡ i = cc in
          let first = slice_split_first p xs 0 (leb-true (suc (position_or_len p xs)) (length xs) below) in
          subst (λ (k : ℕ). slice_split p xs ≡ take k xs ∷ slice_split p (drop (k + 1) xs)) place first
      by false below some = absurd (cc)

  -- all, where there is none
  pub split-none : position p xs ≡ None → slice_split p xs ≡ xs ∷ []
  split-none none = elim (cases_lt (position_or_len p xs) (length xs)) [
    | inl below ↦ absurd (
        let found : position p xs ≡ Some (position_or_len p xs) =
        ap (λ (b : Bool). cond b (Some (position_or_len p xs)) None) (le-leb (suc (position_or_len p xs)) (length xs)
        below) in cc)
    | inr above ↦ slice_split_none p xs (λ k d within. fails_before_first p xs k d (omega (arith, above, within)))
  ]

  -- there are no more of them than bytes and one
  pub few-parts : length (slice_split p xs) ≤ length xs + 1
  few-parts = omega (arith, length-slice_split p xs, count_by-le-length p xs)

  -- of parts that are left
  pub first-part : (more : Bool) (i : ℕ) → more ≡ true → Some i ≡ position p xs
      → parts_left p more xs ≡ take i xs ∷ parts_left p more (take (length xs - (i + 1)) (drop (i + 1) xs))
  first-part true i left at =
      let whole : take (length xs - (i + 1)) (drop (i + 1) xs) ≡ drop (i + 1) xs =
      ap (λ (n : ℕ). take n (drop (i + 1) xs)) (sym (length-drop (i + 1) xs)) ∙ take-length (drop (i + 1) xs) in
      split-some i (sym at) ∙ ap (λ (rest : List ℕ). take i xs ∷ slice_split p rest) (sym whole)
  first-part false i left at = absurd (cc)

  pub last-part : (more : Bool) → more ≡ true → None ≡ position p xs → parts_left p more xs ≡ xs ∷ []
  last-part true left at = split-none (sym at)
  last-part false left at = absurd (cc)
