-- Births: the places of the lines that made a service's steps, of which each is greater than the one before.
use Rattle.std.proofs.Common.{◌≡◌, ◌⊎◌, ℕ, suc, zero, ◌+◌, ◌<◌, ◌≤◌, List, [], ◌∷◌, ◌++◌, length, refl, ap, sym, subst}
use Rattle.std.proofs.Common.{inl, inr, arith}
use Rattle.std.specs.Prelude.{Some, slice_get, slice_set}
use Rattle.std.proofs.lemmas.Option.{slice_get_cases, slice_get_within}
use Rattle.tw_base.specs.kinds.Lists.{Each}
use Rattle.tw_world.specs.Worlds.{numbered}

module _ {X : Type 0} where
  same_some : (x y : X) → Some x ≡ Some y → x ≡ y
  same_some x y e = cc

  -- ---- one more element

  pub get-left : (xs : List X) (y : X) (i : ℕ) (x : X) → slice_get xs i ≡ Some x → slice_get (xs ++ y ∷ []) i ≡ Some x
  get-left [] y i x is = cc
  get-left (z ∷ xs) y zero x is = is
  get-left (z ∷ xs) y (suc i) x is = get-left xs y i x is

  pub get-last : (xs : List X) (y : X) → slice_get (xs ++ y ∷ []) (length xs) ≡ Some y
  get-last [] y = refl
  get-last (z ∷ xs) y = get-last xs y

  -- an element is one of those before, or the new one
  pub get-cases : (xs : List X) (y : X) (i : ℕ) (x : X) → slice_get (xs ++ y ∷ []) i ≡ Some x
      → (slice_get xs i ≡ Some x) ⊎ ((i ≡ length xs) × (x ≡ y))
  get-cases [] y zero x is = inr (refl, sym (same_some y x is))
  get-cases [] y (suc i) x is = cc
  get-cases (z ∷ xs) y zero x is = inl is
  get-cases (z ∷ xs) y (suc i) x is =
      elim (get-cases xs y i x is) [
        | inl old ↦ inl old
        | inr new ↦ inr (ap suc new.0, new.1)
      ]

  -- ---- numbers

  pub numbered-left : (xs : List X) (y : X) (number : ℕ) (x : X) → numbered xs number ≡ Some x → numbered (xs ++ y ∷ [])
      number ≡ Some x
  numbered-left xs y zero x is = cc
  numbered-left xs y (suc i) x is = get-left xs y i x is

  pub numbered-there : (xs : List X) (number : ℕ) → 1 ≤ number → number ≤ length xs
      → (x : X) × (numbered xs number ≡ Some x)
  numbered-there xs zero some within = absurd (omega (arith, some))
  numbered-there xs (suc i) some within =
      elim (slice_get_cases xs i).1 [
        | inl there ↦ (there.0, there.2)
        | inr past ↦ absurd (omega (arith, within, past.0))
      ]

  -- ---- one element replaced

  pub each-set : (P : X → Type 0) (xs : List X) (i : ℕ) (x : X) → P x → Each P xs → Each P (slice_set xs i x)
  each-set P [] i x is all = tt
  each-set P (y ∷ xs) zero x is all = (is, all.1)
  each-set P (y ∷ xs) (suc i) x is all = (all.0, each-set P xs i x is all.1)

  pub each-get : (P : X → Type 0) (xs : List X) (i : ℕ) (x : X) → Each P xs → slice_get xs i ≡ Some x → P x
  each-get P [] i x all is = cc
  each-get P (y ∷ xs) zero x all is = subst P (same_some y x is) all.0
  each-get P (y ∷ xs) (suc i) x all is = each-get P xs i x all.1 is

  pub each-numbered : (P : X → Type 0) (xs : List X) (number : ℕ) (x : X) → Each P xs → numbered xs number ≡ Some x
      → P x
  each-numbered P xs zero x all is = cc
  each-numbered P xs (suc i) x all is = each-get P xs i x all is

-- ---- births

-- each is below the bound, and those of later steps are greater
pub record RiseBelow (bound : ℕ) (births : List ℕ) : Type 0 where
  pub below : (i a : ℕ) → slice_get births i ≡ Some a → a < bound
  pub rise : (i j a b : ℕ) → slice_get births i ≡ Some a → slice_get births j ≡ Some b → i < j → a < b

pub no-births : (bound : ℕ) → RiseBelow bound []
no-births bound = record { below = λ i a is. cc; rise = λ i j a b one other less. cc }

pub rise-later : (bound : ℕ) (births : List ℕ) → RiseBelow bound births → RiseBelow (bound + 1) births
rise-later bound births r = record { below = λ i a is. omega (arith, r.below i a is); rise = r.rise }

-- with a birth at the bound
pub rise-more : (bound : ℕ) (births : List ℕ) → RiseBelow bound births → RiseBelow (bound + 1) (births ++ bound ∷ [])
rise-more bound births r = record {
  below = λ i a is. below i a (get-cases births bound i a is);
  rise = λ i j a b one other less. rises i j a b less (get-cases births bound i a one)
      (get-cases births bound j b other);
}
  where
    below : (i a : ℕ) → (slice_get births i ≡ Some a) ⊎ ((i ≡ length births) × (a ≡ bound)) → a < bound + 1
    below i a (inl old) = omega (arith, r.below i a old)
    below i a (inr new) = omega (arith, new.1)

    rises : (i j a b : ℕ) → i < j → (slice_get births i ≡ Some a) ⊎ ((i ≡ length births) × (a ≡ bound))
        → (slice_get births j ≡ Some b) ⊎ ((j ≡ length births) × (b ≡ bound)) → a < b
    rises i j a b less (inl one) (inl other) = r.rise i j a b one other less
    rises i j a b less (inl one) (inr new) = omega (arith, r.below i a one, new.1)
    rises i j a b less (inr new) (inl other) = absurd (omega (arith, less, new.0, slice_get_within births j b other))
    rises i j a b less (inr new) (inr other) = absurd (omega (arith, less, new.0, other.0))

-- by their numbers
pub rise-numbered : (bound : ℕ) (births : List ℕ) → RiseBelow bound births → (i j a b : ℕ) → numbered births i ≡ Some a
    → numbered births j ≡ Some b → i < j → a < b
rise-numbered bound births r zero j a b one other less = cc
rise-numbered bound births r (suc i) zero a b one other less = cc
rise-numbered bound births r (suc i) (suc j) a b one other less = r.rise i j a b one other (omega (arith, less))

pub below-numbered : (bound : ℕ) (births : List ℕ) → RiseBelow bound births → (i a : ℕ) → numbered births i ≡ Some a
    → a < bound
below-numbered bound births r zero a is = cc
below-numbered bound births r (suc i) a is = r.below i a is
