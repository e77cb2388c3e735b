-- The ordered pair of texts with one more behind them.
use Rattle.std.proofs.Common.{◌≡◌, ℕ, List, [], ◌∷◌, ◌++◌, refl, ap, sym, ◌∙◌, append_assoc}
use Rattle.std.specs.Prelude.{Option, Some, None, find}
use Rattle.std.specs.Option.{option_map, option_map_or}
use Rattle.std.proofs.lemmas.List.{append-nil}
use Rattle.tw_base.specs.kinds.Clash.{Pair, clash_pair, clashes, pair_after}

module _ (dig : List ℕ → List ℕ) where
  abbrev with : (text one : List ℕ) → Pair
  with text one = record { one = one; other = text }

  mapped : (text : List ℕ) (o : Option (List ℕ)) → option_map_or (λ one. Some (with text one)) o None ≡ option_map
      (with text) o
  mapped text None = refl
  mapped text (Some one) = refl

  after-none : (before texts : List (List ℕ)) (text : List ℕ) → pair_after dig before texts ≡ None
      → pair_after dig before (texts ++ text ∷ []) ≡ option_map (with text) (find (clashes dig text) (before ++ texts))
  after-none before [] text e =
      mapped text (find (clashes dig text) before) ∙ ap (λ b. option_map (with text) (find (clashes dig text) b))
      (sym (append-nil before))
  after-none before (t ∷ ts) text e = by (after-none (before ++ t ∷ []) ts text) (find (clashes dig t) before) e
    where
      by : (pair_after dig (before ++ t ∷ []) ts ≡ None → pair_after dig (before ++ t ∷ []) (ts ++ text ∷ [])
          ≡ option_map (with text) (find (clashes dig text) ((before ++ t ∷ []) ++ ts)))
          → (o : Option (List ℕ)) → option_map_or (λ one. Some (with t one)) o (pair_after dig (before ++ t ∷ []) ts)
          ≡ None
          → option_map_or (λ one. Some (with t one)) o (pair_after dig (before ++ t ∷ []) (ts ++ text ∷ []))
          ≡ option_map (with text) (find (clashes dig text) (before ++ t ∷ ts))
      by more None is = more is ∙ ap (λ b. option_map (with text) (find (clashes dig text) b))
          (append_assoc before (t ∷ []) ts)
      by more (Some one) is = cc

  after-some : (before texts : List (List ℕ)) (text : List ℕ) (p : Pair) → pair_after dig before texts ≡ Some p
      → pair_after dig before (texts ++ text ∷ []) ≡ Some p
  after-some before [] text p e = cc
  after-some before (t ∷ ts) text p e = by (after-some (before ++ t ∷ []) ts text p) (find (clashes dig t) before) e
    where
      by : (pair_after dig (before ++ t ∷ []) ts ≡ Some p → pair_after dig (before ++ t ∷ []) (ts ++ text ∷ []) ≡ Some
          p) → (o : Option (List ℕ)) → option_map_or (λ one. Some (with t one)) o (pair_after dig (before ++ t ∷ []) ts)
          ≡ Some p
          → option_map_or (λ one. Some (with t one)) o (pair_after dig (before ++ t ∷ []) (ts ++ text ∷ [])) ≡ Some p
      by more None is = more is
      by more (Some one) is = is

  -- without a pair so far, it is the text with the first one that it clashes with
  pub pair-none : (texts : List (List ℕ)) (text : List ℕ) → clash_pair dig texts ≡ None
      → clash_pair dig (texts ++ text ∷ []) ≡ option_map (λ one. record { one = one; other = text })
      (find (clashes dig text) texts)
  pair-none texts text e = after-none [] texts text e

  -- once there, it stays
  pub pair-some : (texts : List (List ℕ)) (text : List ℕ) (p : Pair) → clash_pair dig texts ≡ Some p
      → clash_pair dig (texts ++ text ∷ []) ≡ Some p
  pair-some texts text p e = after-some [] texts text p e
