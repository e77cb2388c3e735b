-- Each element of a list, and membership.
use Rattle.std.proofs.Common.{◌≡◌, ◌≢◌, ◌⊎◌, ℕ, suc, zero, List, [], ◌∷◌, ◌++◌, length, get_or, refl, sym, ◌∙◌, subst}
use Rattle.std.proofs.Common.{arith, inl, inr}
use Rattle.tw_base.specs.kinds.Lists.{Each, In}

pub Each-append : {X : Type 0} (P : X → Type 0) (xs ys : List X) → Each P xs → Each P ys → Each P (xs ++ ys)
Each-append P [] ys p q = q
Each-append P (x ∷ xs) ys p q = (p.0, Each-append P xs ys p.1 q)

pub Each-parts : {X : Type 0} (P : X → Type 0) (xs ys : List X) → Each P (xs ++ ys) → Each P xs × Each P ys
Each-parts P [] ys p = (tt, p)
Each-parts P (x ∷ xs) ys p = let rest = Each-parts P xs ys p.1 in ((p.0, rest.0), rest.1)

pub Each-get_or : {X : Type 0} (P : X → Type 0) (xs : List X) (i : ℕ) (d : X) → P d → Each P xs → P (get_or xs i d)
Each-get_or P [] i d default all = default
Each-get_or P (x ∷ xs) zero d default all = all.0
Each-get_or P (x ∷ xs) (suc i) d default all = Each-get_or P xs i d default all.1

pub Each-map : {X : Type 0} (P Q : X → Type 0) (xs : List X) → ((x : X) → P x → Q x) → Each P xs → Each Q xs
Each-map P Q [] f all = tt
Each-map P Q (x ∷ xs) f all = (f x all.0, Each-map P Q xs f all.1)

pub Each-in : {X : Type 0} (P : X → Type 0) (xs : List X) (x : X) → Each P xs → In x xs → P x
Each-in P [] x all has = absurd has
Each-in P (y ∷ ys) x all (inl e) = subst P (sym e) all.0
Each-in P (y ∷ ys) x all (inr has) = Each-in P ys x all.1 has

pub In-left : {X : Type 0} (x : X) (xs ys : List X) → In x xs → In x (xs ++ ys)
In-left x [] ys p = absurd p
In-left x (y ∷ xs) ys (inl q) = inl q
In-left x (y ∷ xs) ys (inr p) = inr (In-left x xs ys p)

pub In-right : {X : Type 0} (x : X) (xs ys : List X) → In x ys → In x (xs ++ ys)
In-right x [] ys p = p
In-right x (y ∷ xs) ys p = inr (In-right x xs ys p)

module _ {X : Type 0} where
  -- all elements are different
  abbrev pub Apart : List X → Type 0
  Apart [] = Unit {0}
  Apart (x ∷ xs) = Each (λ y. x ≢ y) xs × Apart xs

  without : (xs : List X) (x : X) → In x xs → List X
  without [] x p = absurd p
  without (y ∷ ys) x (inl e) = ys
  without (y ∷ ys) x (inr p) = y ∷ without ys x p

  length-without : (xs : List X) (x : X) (p : In x xs) → length xs ≡ suc (length (without xs x p))
  unfolding without
  length-without [] x p = absurd p
  length-without (y ∷ ys) x (inl e) = refl
  length-without (y ∷ ys) x (inr p) = let rest = length-without ys x p in omega (arith, rest)

  In-cases : (xs : List X) (x : X) (p : In x xs) (z : X) → In z xs → (z ≡ x) ⊎ In z (without xs x p)
  unfolding without
  In-cases [] x p z q = absurd q
  In-cases (y ∷ ys) x (inl e) z (inl same) = inl (same ∙ sym e)
  In-cases (y ∷ ys) x (inl e) z (inr q) = inr q
  In-cases (y ∷ ys) x (inr p) z (inl same) = inr (inl same)
  In-cases (y ∷ ys) x (inr p) z (inr q) = elim (In-cases ys x p z q)
      [ inl same ↦ inl same | inr there ↦ inr (inr there) ]

  others : (xs : List X) (x : X) (p : In x xs) (zs : List X) → Each (λ z. In z xs) zs → Each (λ z. x ≢ z) zs
      → Each (λ z. In z (without xs x p)) zs
  others xs x p [] has apart = tt
  others xs x p (z ∷ zs) has apart = (
    elim (In-cases xs x p z has.0) [ inl same ↦ absurd (apart.0 (sym same)) | inr there ↦ there ],
    others xs x p zs has.1 apart.1,
  )

  -- as many different elements of a list as it has are all of them
  pub pigeonhole : (xs ys : List X) → Apart xs → Each (λ x. In x ys) xs → length xs ≡ length ys → (y : X) → In y ys
      → In y xs
  pigeonhole [] [] apart has n y p = p
  pigeonhole [] (z ∷ ys) apart has n y p = absurd (omega (arith, n))
  pigeonhole (x ∷ xs) ys apart has n y p =
      let rest : List X = without ys x has.0 in
      elim (In-cases ys x has.0 y p) [
        | inl same ↦ inl same
        | inr there ↦ inr (pigeonhole xs rest apart.1 (others ys x has.0 xs has.1 apart.0)
            (let m = length-without ys x has.0 in omega (arith, n, m)) y there)
      ]

pub In-cases_append : {X : Type 0} (x : X) (xs ys : List X) → In x (xs ++ ys) → In x xs ⊎ In x ys
In-cases_append x [] ys p = inr p
In-cases_append x (y ∷ xs) ys (inl e) = inl (inl e)
In-cases_append x (y ∷ xs) ys (inr p) = elim (In-cases_append x xs ys p)
    [ inl here ↦ inl (inr here) | inr there ↦ inr there ]
