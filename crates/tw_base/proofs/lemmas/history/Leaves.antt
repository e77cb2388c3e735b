-- A tree with one more entry at its empty place has the list with the entry in its place.
use Rattle.std.proofs.Common.{◌≡◌, List, [], ◌∷◌, ◌++◌, Bool, true, false, refl, ap, sym, ◌∙◌, subst}
use Rattle.std.specs.Prelude.{Option, Some, None, is_some, cond, if◌then◌else◌}
use Rattle.std.specs.Ordering.{is_eq, is_lt}
use Rattle.tw_base.specs.declared.history.thread.Entry.{Entry}
use Rattle.tw_base.specs.history.Asking.{entry_with, with_entry}
use Rattle.tw_base.specs.history.Entries.{KeyBelow, key_cmp, key_of}
use Rattle.tw_base.specs.kinds.Lists.{Each}
use Rattle.tw_base.specs.history.Tree.{Tree, IsRising, entries}
use Rattle.tw_base.specs.history.Tree.Tree.{Empty, Branch}
use Rattle.tw_base.proofs.lemmas.history.Keys.{KeyBelow-trans}
use Rattle.tw_base.proofs.lemmas.kinds.ListLemmas.{Each-map}
use Rattle.tw_base.specs.history.WithLeaf.{HasLeaf, with_leaf}
use Rattle.tw_base.proofs.lemmas.history.Asked.{cut}
use Rattle.tw_base.proofs.lemmas.history.KeyTests.{NotBelow, below-lt, below-other, eq-above, lt-above, not_below}
use Rattle.tw_base.proofs.lemmas.history.KeyTests.NotBelow.{One, Over}

pub some_is : (o : Option Entry) → is_some o ≡ true → (f : Entry) × (o ≡ Some f)
some_is None test = cc
some_is (Some f) test = (f, refl)

pub none_is : (o : Option Entry) → is_some o ≡ false → o ≡ None
none_is None test = refl
none_is (Some f) test = cc

module _ (e : Entry) where
  abbrev IsUnder : Entry → Bool
  IsUnder f = is_lt (key_cmp (key_of e) (key_of f))

  pub with-left : (front : List Entry) (f : Entry) (back : List Entry) → IsUnder f ≡ true
      → with_entry (front ++ f ∷ back) e ≡ with_entry front e ++ f ∷ back
  with-left [] f back sure = ap (λ b. if b then e ∷ f ∷ back else f ∷ with_entry back e) sure
  with-left (g ∷ front) f back sure = by (with-left front f back sure) (IsUnder g) refl
    where
      by : with_entry (front ++ f ∷ back) e ≡ with_entry front e ++ f ∷ back → (b : Bool) → IsUnder g ≡ b
          → with_entry (g ∷ (front ++ f ∷ back)) e ≡ with_entry (g ∷ front) e ++ f ∷ back
      by rest true is =
          ap (λ b. if b then e ∷ g ∷ (front ++ f ∷ back) else g ∷ with_entry (front ++ f ∷ back) e) is
          ∙ sym (ap (λ b. (if b then e ∷ g ∷ front else g ∷ with_entry front e) ++ f ∷ back) is)
      by rest false is =
          ap (λ b. if b then e ∷ g ∷ (front ++ f ∷ back) else g ∷ with_entry (front ++ f ∷ back) e) is
          ∙ ap (λ xs. g ∷ xs) rest
          ∙ sym (ap (λ b. (if b then e ∷ g ∷ front else g ∷ with_entry front e) ++ f ∷ back) is)

  pub with-right : (front : List Entry) (f : Entry) (back : List Entry) → Each (λ g. KeyBelow (key_of g) (key_of f))
      front → IsUnder f ≡ false → with_entry (front ++ f ∷ back) e ≡ front ++ f ∷ with_entry back e
  with-right [] f back lower never = ap (λ b. if b then e ∷ f ∷ back else f ∷ with_entry back e) never
  with-right (g ∷ front) f back lower never =
      let here = lt-above (key_of e) (key_of g) (below-other (key_of g) (key_of f) (key_of e) lower.0 never) in
      ap (λ b. if b then e ∷ g ∷ (front ++ f ∷ back) else g ∷ with_entry (front ++ f ∷ back) e) here
      ∙ ap (λ xs. g ∷ xs) (with-right front f back lower.1 never)

  leaf-list : (t : Tree) → IsRising (entries t) → entries (with_leaf t e) ≡ with_entry (entries t) e
  unfolding with_leaf
  leaf-list Empty rising = refl
  leaf-list (Branch l f r) rising =
      let parts = cut (entries l) f (entries r) rising in
      by parts.lower (leaf-list l parts.front_rises) (leaf-list r parts.back_rises) (IsUnder f) refl
    where
      by : Each (λ g. KeyBelow (key_of g) (key_of f)) (entries l) → entries (with_leaf l e) ≡ with_entry (entries l) e
          → entries (with_leaf r e) ≡ with_entry (entries r) e → (b : Bool) → IsUnder f ≡ b
          → entries (if IsUnder f then Branch (with_leaf l e) f r else Branch l f (with_leaf r e)) ≡ with_entry
          (entries l ++ f ∷ entries r) e
      by lower left right true is =
          ap (λ b. entries (if b then Branch (with_leaf l e) f r else Branch l f (with_leaf r e))) is
          ∙ ap (λ xs. xs ++ f ∷ entries r) left ∙ sym (with-left (entries l) f (entries r) is)
      by lower left right false is =
          ap (λ b. entries (if b then Branch (with_leaf l e) f r else Branch l f (with_leaf r e))) is
          ∙ ap (λ xs. entries l ++ f ∷ xs) right ∙ sym (with-right (entries l) f (entries r) lower is)

  -- below the entry, and below all others, is below all
  each-with : (P : Entry → Type 0) (es : List Entry) → P e → Each P es → Each P (with_entry es e)
  each-with P [] here all = (here, tt)
  each-with P (f ∷ es) here all = by (each-with P es here all.1) (IsUnder f) refl
    where
      by : Each P (with_entry es e) → (b : Bool) → IsUnder f ≡ b
          → Each P (if IsUnder f then e ∷ f ∷ es else f ∷ with_entry es e)
      by rest true is = subst (λ b. Each P (if b then e ∷ f ∷ es else f ∷ with_entry es e)) (sym is) (here, all)
      by rest false is = subst (λ b. Each P (if b then e ∷ f ∷ es else f ∷ with_entry es e)) (sym is) (all.0, rest)

  rises-with : (es : List Entry) → IsRising es → entry_with es (key_of e) ≡ None → IsRising (with_entry es e)
  rises-with [] rising absent = (tt, tt)
  rises-with (f ∷ es) rising absent = by (λ none. rises-with es rising.1 none) (IsUnder f) refl
    where
      Rest : Type 0
      Rest = entry_with es (key_of e) ≡ None → IsRising (with_entry es e)

      place : Rest → NotBelow (key_of e) (key_of f) → IsRising (f ∷ with_entry es e)
      place rest (One same) = absurd (let there : None ≡ Some f =
          sym absent ∙ ap (λ b. cond b (Some f) (entry_with es (key_of e))) (ap is_eq same) in cc)
      place rest (Over more) =
          let other = eq-above (key_of e) (key_of f) more in (
            each-with (λ g. KeyBelow (key_of f) (key_of g)) es more rising.0,
            rest (sym (ap (λ b. cond b (Some f) (entry_with es (key_of e))) other) ∙ absent),
          )

      by : Rest → (b : Bool) → IsUnder f ≡ b → IsRising (if IsUnder f then e ∷ f ∷ es else f ∷ with_entry es e)
      by rest true is =
          let less = below-lt (key_of e) (key_of f) is in
          let all = Each-map _ (λ g. KeyBelow (key_of e) (key_of g)) es (λ g more. KeyBelow-trans (key_of e) (key_of f)
          (key_of g) less more) rising.0 in
          subst (λ b. IsRising (if b then e ∷ f ∷ es else f ∷ with_entry es e)) (sym is) ((less, all), rising)
      by rest false is = subst (λ b. IsRising (if b then e ∷ f ∷ es else f ∷ with_entry es e)) (sym is)
          (place rest (not_below (key_of e) (key_of f) is))

  pub has-leaf : (t new : Tree) → IsRising (entries t) → entry_with (entries t) (key_of e) ≡ None → new ≡ with_leaf t e
      → HasLeaf t e new
  has-leaf t new rising absent is =
      let list : entries new ≡ with_entry (entries t) e = ap entries is ∙ leaf-list t rising in
      record {
        absent = absent;
        tree = is;
        list = list;
        rising = subst IsRising (sym list) (rises-with (entries t) rising absent);
      }
