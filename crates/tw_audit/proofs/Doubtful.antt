-- The pair of texts is that of those whose digests pass a test, where those of the others clash with none.
use Rattle.std.proofs.Common.{◌≡◌, ℕ, List, [], ◌∷◌, ◌++◌, Bool, true, false, refl, ap, sym, ◌∙◌, subst, append_assoc}
use Rattle.std.proofs.Common.{inl, inr}
use Rattle.std.specs.Prelude.{Option, Some, None, cond, find, not, ◌&&◌, if◌then◌else◌}
use Rattle.std.specs.List.{filter}
use Rattle.std.specs.Option.{option_map_or}
use Rattle.std.specs.Str.{bytes_eq}
use Rattle.std.proofs.lemmas.Bool.{and_parts}
use Rattle.std.proofs.lemmas.List.{append-nil}
use Rattle.std.proofs.lemmas.Slice.Eq.{bytes_eq-Decides}
use Rattle.tw_base.specs.kinds.Clash.{Among, Pair, clash_pair, clashes, pair_after}
use Rattle.tw_base.proofs.lemmas.kinds.Clashes.{Among-left, Among-right}

module _ (dig : List ℕ → List ℕ) (p : List ℕ → Bool) where
  abbrev kept : List (List ℕ) → List (List ℕ)
  kept texts = filter (λ t. p (dig t)) texts

  -- one text more
  pub kept-push : (before : List (List ℕ)) (t : List ℕ) (b : Bool) → p (dig t) ≡ b → kept (before ++ t ∷ []) ≡ kept
      before ++ cond b (t ∷ []) []
  kept-push [] t b is = ap (λ c. cond c (t ∷ []) []) is
  kept-push (x ∷ before) t b is = by (p (dig x)) (kept-push before t b is)
    where
      by : (c : Bool) → kept (before ++ t ∷ []) ≡ kept before ++ cond b (t ∷ []) []
          → cond c (x ∷ kept (before ++ t ∷ [])) (kept (before ++ t ∷ [])) ≡ cond c (x ∷ kept before) (kept before)
          ++ cond b (t ∷ []) []
      by true more = ap (λ (w : List (List ℕ)). x ∷ w) more
      by false more = more

  -- a text that passes clashes with none that doesn't
  apart : (text x : List ℕ) → p (dig text) ≡ true → p (dig x) ≡ false → clashes dig text x ≡ false
  apart text x passes fails = by (bytes_eq (dig x) (dig text)) refl
    where
      by : (b : Bool) → bytes_eq (dig x) (dig text) ≡ b → (b && not (bytes_eq x text)) ≡ false
      by true same = absurd (let is : dig x ≡ dig text = (bytes_eq-Decides (dig x) (dig text)).0 same in
          let both : true ≡ false = sym passes ∙ ap p (sym is) ∙ fails in cc)
      by false differ = refl

  found-kept : (text : List ℕ) → p (dig text) ≡ true → (before : List (List ℕ)) → find (clashes dig text) (kept before)
      ≡ find (clashes dig text) before
  found-kept text passes [] = refl
  found-kept text passes (x ∷ before) = by (p (dig x)) refl (found-kept text passes before)
    where
      by : (b : Bool) → p (dig x) ≡ b → find (clashes dig text) (kept before) ≡ find (clashes dig text) before
          → find (clashes dig text) (cond b (x ∷ kept before) (kept before)) ≡ find (clashes dig text) (x ∷ before)
      by true is more = ap (λ (o : Option (List ℕ)). if clashes dig text x then Some x else o) more
      by false fails more = more ∙ sym (ap (λ b. if b then Some x else find (clashes dig text) before)
          (apart text x passes fails))

  -- a text that is the same as each before it with its digest clashes with none of them
  none-found : (text : List ℕ) (before : List (List ℕ)) → ((x : List ℕ) → Among x before → dig x ≡ dig text → x ≡ text)
      → find (clashes dig text) before ≡ None
  none-found text [] same = refl
  none-found text (x ∷ before) same = by (clashes dig text x) refl (none-found text before (λ y a. same y (inr a)))
    where
      by : (b : Bool) → clashes dig text x ≡ b → find (clashes dig text) before ≡ None
          → (if b then Some x else find (clashes dig text) before) ≡ None
      by true is more =
          absurd (let both = and_parts (bytes_eq (dig x) (dig text)) (not (bytes_eq x text)) is in
          let one : x ≡ text = same x (inl refl) ((bytes_eq-Decides (dig x) (dig text)).0 both.0) in
          let eq : bytes_eq x text ≡ true = (bytes_eq-Decides x text).1 one in
          let wrong : not true ≡ true = ap not (sym eq) ∙ both.1 in cc)
      by false is more = more

  abbrev Covers : List (List ℕ) → Type 0
  Covers texts = (x y : List ℕ) → Among x texts → Among y texts → dig x ≡ dig y → p (dig x) ≡ false → x ≡ y

  abbrev with : (text one : List ℕ) → Option Pair
  with text one = Some (record { one = one; other = text })

  pair-kept : (before texts : List (List ℕ)) → Covers (before ++ texts) → pair_after dig (kept before) (kept texts)
      ≡ pair_after dig before texts
  pair-kept before [] covers = refl
  pair-kept before (t ∷ texts) covers =
      by (p (dig t)) refl (pair-kept (before ++ t ∷ []) texts (subst Covers (sym (append_assoc before (t ∷ []) texts))
      covers))
    where
      append-none : p (dig t) ≡ false → kept (before ++ t ∷ []) ≡ kept before
      append-none fails = kept-push before t false fails ∙ append-nil (kept before)

      same : p (dig t) ≡ false → (x : List ℕ) → Among x before → dig x ≡ dig t → x ≡ t
      same fails x a digest = covers x t (Among-left x before (t ∷ texts) a)
          (Among-right t before (t ∷ texts) (inl refl)) digest (ap p digest ∙ fails)

      by : (b : Bool) → p (dig t) ≡ b → pair_after dig (kept (before ++ t ∷ [])) (kept texts) ≡ pair_after dig
          (before ++ t ∷ []) texts
          → pair_after dig (kept before) (cond b (t ∷ kept texts) (kept texts)) ≡ pair_after dig before (t ∷ texts)
      by true passes more =
          let rest : pair_after dig (kept before ++ t ∷ []) (kept texts) ≡ pair_after dig (before ++ t ∷ []) texts =
          ap (λ b. pair_after dig b (kept texts)) (sym (kept-push before t true passes)) ∙ more in
          (λ k. option_map_or (with t) (found-kept t passes before k) (rest k))
      by false fails more =
          ap (λ b. pair_after dig b (kept texts)) (sym (append-none fails)) ∙ more
          ∙ sym (ap (λ (o : Option (List ℕ)). option_map_or (with t) o (pair_after dig (before ++ t ∷ []) texts))
          (none-found t before (same fails)))

  pub clash_pair-kept : (texts : List (List ℕ)) → Covers texts → clash_pair dig (kept texts) ≡ clash_pair dig texts
  clash_pair-kept texts covers = pair-kept [] texts covers

  -- where none passes
  pub clash_pair-none-kept : (texts : List (List ℕ)) → ((d : List ℕ) → p d ≡ false) → Covers texts
      → None ≡ clash_pair dig texts
  clash_pair-none-kept texts none covers = ap (clash_pair dig) (sym (empty texts)) ∙ clash_pair-kept texts covers
    where
      empty : (ts : List (List ℕ)) → kept ts ≡ []
      empty [] = refl
      empty (t ∷ ts) = ap (λ b. cond b (t ∷ kept ts) (kept ts)) (none (dig t)) ∙ empty ts
