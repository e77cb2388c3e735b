-- Texts that are handed on one after another.
use Rattle.std.proofs.Common.{◌≡◌, ℕ, List, [], ◌∷◌, ◌++◌, sym, subst, append_assoc}
use Rattle.std.proofs.lemmas.List.{append-nil}
use Rattle.tw_base.specs.kinds.Handing.{Hands}

module _ {S : Type 0} (took : S → List (List ℕ) → Type 0) where
  -- nothing was handed on
  pub hands-none : (s : S) → Hands took s s []
  hands-none s = record { behind = λ before has. subst (took s) (sym (append-nil before)) has }

  -- one after the other
  pub hands-then : (a b c : S) (xs ys : List (List ℕ)) → Hands took a b xs → Hands took b c ys
      → Hands took a c (xs ++ ys)
  hands-then a b c xs ys first second =
      record {
        behind = λ before has. subst (took c) (append_assoc before xs ys)
            (second.behind (before ++ xs) (first.behind before has));
      }

  -- the same texts
  pub hands-same : (a b : S) (xs ys : List (List ℕ)) → xs ≡ ys → Hands took a b xs → Hands took a b ys
  hands-same a b xs ys same hands = subst (Hands took a b) same hands

  -- the same text
  pub hands-text : (a b : S) (x y : List ℕ) → x ≡ y → Hands took a b (x ∷ []) → Hands took a b (y ∷ [])
  hands-text a b x y same hands = subst (λ t. Hands took a b (t ∷ [])) same hands
