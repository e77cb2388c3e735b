-- What the answers of a list of entries say of its members, and what a list with one more entry has.
use Rattle.std.proofs.Common.{◌≡◌, ◌⊎◌, suc, List, [], ◌∷◌, length, Bool, true, false, refl, ap, sym, ◌∙◌, subst, inl}
use Rattle.std.proofs.Common.{inr}
use Rattle.std.specs.Prelude.{Option, Some, None, if◌then◌else◌}
use Rattle.std.specs.Option.{option_or}
use Rattle.std.specs.Ordering.{is_eq, is_lt}
use Rattle.tw_base.specs.declared.history.thread.Entry.{Entry}
use Rattle.tw_base.specs.declared.history.thread.Key.{Key}
use Rattle.tw_base.specs.history.Asking.{IsGreatestBelow, IsLeastAbove, entry_with, first_above, last_below, with_entry}
use Rattle.tw_base.specs.history.Entries.{KeyBelow, key_cmp, key_of}
use Rattle.tw_base.specs.history.Tree.{IsRising}
use Rattle.tw_base.specs.kinds.Lists.{Each, In}
use Rattle.tw_base.proofs.lemmas.history.Keys.{KeyBelow-trans}
use Rattle.tw_base.proofs.lemmas.history.KeyTests.{NotBelow, below-lt, lt-below, not_below}
use Rattle.tw_base.proofs.lemmas.history.KeyTests.NotBelow.{One, Over}
use Rattle.tw_base.proofs.lemmas.kinds.ListLemmas.{Each-in, Each-map}

never : true ≡ false → ⊥
never e = cc

some_entry : (e f : Entry) → Some e ≡ Some f → e ≡ f
some_entry e f same = cc

-- ---- one more entry

module _ (e : Entry) where
  pub length-with_entry : (es : List Entry) → length (with_entry es e) ≡ suc (length es)
  length-with_entry [] = refl
  length-with_entry (f ∷ es) = by (is_lt (key_cmp (key_of e) (key_of f))) (length-with_entry es)
    where
      by : (b : Bool) → length (with_entry es e) ≡ suc (length es)
          → length (if b then e ∷ f ∷ es else f ∷ with_entry es e) ≡ suc (suc (length es))
      by true rest = refl
      by false rest = ap suc rest

  -- it has the entry, and those of the list, and no others
  pub with_entry-in : (es : List Entry) (g : Entry) → In g (with_entry es e) → (g ≡ e) ⊎ In g es
  with_entry-in [] g there = there
  with_entry-in (f ∷ es) g there = by (is_lt (key_cmp (key_of e) (key_of f))) (with_entry-in es g) there
    where
      by : (b : Bool) → (In g (with_entry es e) → (g ≡ e) ⊎ In g es)
          → In g (if b then e ∷ f ∷ es else f ∷ with_entry es e) → (g ≡ e) ⊎ In g (f ∷ es)
      by true rest (inl same) = inl same
      by true rest (inr there) = inr there
      by false rest (inl same) = inr (inl same)
      by false rest (inr there) = elim (rest there) [ inl same ↦ inl same | inr old ↦ inr (inr old) ]

  pub in-with_entry : (es : List Entry) (g : Entry) → (g ≡ e) ⊎ In g es → In g (with_entry es e)
  in-with_entry [] g there = there
  in-with_entry (f ∷ es) g there = by (is_lt (key_cmp (key_of e) (key_of f))) (in-with_entry es g) there
    where
      by : (b : Bool) → ((g ≡ e) ⊎ In g es → In g (with_entry es e)) → (g ≡ e) ⊎ In g (f ∷ es)
          → In g (if b then e ∷ f ∷ es else f ∷ with_entry es e)
      by true rest (inl same) = inl same
      by true rest (inr there) = inr there
      by false rest (inl same) = inr (rest (inl same))
      by false rest (inr (inl same)) = inl same
      by false rest (inr (inr old)) = inr (rest (inr old))

  each-with_entry : (P : Entry → Type 0) (es : List Entry) → P e → Each P es → Each P (with_entry es e)
  each-with_entry P [] one all = (one, tt)
  each-with_entry P (f ∷ es) one all = by (is_lt (key_cmp (key_of e) (key_of f))) (each-with_entry P es one all.1)
    where
      by : (b : Bool) → Each P (with_entry es e) → Each P (if b then e ∷ f ∷ es else f ∷ with_entry es e)
      by true rest = (one, all)
      by false rest = (all.0, rest)

  -- where no entry has its key, the list with it rises as the list does
  pub rising-with_entry : (es : List Entry) → IsRising es → entry_with es (key_of e) ≡ None → IsRising (with_entry es e)
  rising-with_entry [] rising none = (tt, tt)
  rising-with_entry (f ∷ es) rising none = by (is_lt (key_cmp (key_of e) (key_of f))) refl
      (rising-with_entry es rising.1)
    where
      later : (b : Bool) → is_eq (key_cmp (key_of e) (key_of f)) ≡ b → (if b then Some f else entry_with es (key_of e))
          ≡ None → (b ≡ false) × (entry_with es (key_of e) ≡ None)
      later true test is = cc
      later false test is = (refl, is)

      over : NotBelow (key_of e) (key_of f) → KeyBelow (key_of f) (key_of e)
      over (One is) = absurd (never (sym (ap is_eq is) ∙ (later (is_eq (key_cmp (key_of e) (key_of f))) refl none).0))
      over (Over less) = less

      by : (b : Bool) → is_lt (key_cmp (key_of e) (key_of f)) ≡ b → (entry_with es (key_of e) ≡ None
          → IsRising (with_entry es e)) → IsRising (if b then e ∷ f ∷ es else f ∷ with_entry es e)
      by true test rest =
          let less = below-lt (key_of e) (key_of f) test in (
            (
              less,
              Each-map (λ g. KeyBelow (key_of f) (key_of g)) (λ g. KeyBelow (key_of e) (key_of g)) es
                  (λ g. KeyBelow-trans (key_of e) (key_of f) (key_of g) less) rising.0,
            ),
            rising,
          )
      by false test rest = (
        each-with_entry (λ g. KeyBelow (key_of f) (key_of g)) es (over (not_below (key_of e) (key_of f) test)) rising.0,
        rest (later (is_eq (key_cmp (key_of e) (key_of f))) refl none).1,
      )

-- ---- the last entry below a key, and the first above it

module _ (key : Key) where
  pub none-below : (es : List Entry) → IsRising es → last_below es key ≡ None → (g : Entry) → In g es
      → KeyBelow (key_of g) key → ⊥
  none-below [] rising none g there below = absurd there
  none-below (f ∷ es) rising none g there below = by (is_lt (key_cmp (key_of f) key)) refl none
    where
      some : (o : Option Entry) → option_or o (Some f) ≡ None → ⊥
      some None is = cc
      some (Some h) is = cc

      first : In g (f ∷ es) → KeyBelow (key_of f) key
      first (inl same) = subst (λ x. KeyBelow (key_of x) key) same below
      first (inr old) = KeyBelow-trans (key_of f) (key_of g) key (Each-in (λ x. KeyBelow (key_of f) (key_of x)) es g
          rising.0 old) below

      by : (b : Bool) → is_lt (key_cmp (key_of f) key) ≡ b → (if b then option_or (last_below es key) (Some f)
          else None) ≡ None → ⊥
      by true test is = some (last_below es key) is
      by false test is = never (sym (lt-below (key_of f) key (first there)) ∙ test)

  pub last-below : (es : List Entry) → IsRising es → (e : Entry) → last_below es key ≡ Some e → IsGreatestBelow es key e
  last-below [] rising e is = cc
  last-below (f ∷ es) rising e is = by (is_lt (key_cmp (key_of f) key)) refl (last-below es rising.1 e) is
    where
      at_first : KeyBelow (key_of f) key → last_below es key ≡ None → f ≡ e → IsGreatestBelow (f ∷ es) key e
      at_first below none same = record {
        has = inl (sym same);
        below = subst (λ x. KeyBelow (key_of x) key) same below;
        greatest = λ g there less. elim there [
          | inl is ↦ inl (is ∙ same)
          | inr old ↦ absurd (none-below es rising.1 none g old less)
        ];
      }

      behind : IsGreatestBelow es key e → IsGreatestBelow (f ∷ es) key e
      behind last = record {
        has = inr last.has;
        below = last.below;
        greatest = λ g there less. elim there [
          | inl is ↦ inr (subst (λ x. KeyBelow (key_of x) (key_of e)) (sym is)
              (Each-in (λ x. KeyBelow (key_of f) (key_of x)) es e rising.0 last.has))
          | inr old ↦ last.greatest g old less
        ];
      }

      which : KeyBelow (key_of f) key → (last_below es key ≡ Some e → IsGreatestBelow es key e) → (o : Option Entry)
          → last_below es key ≡ o → option_or o (Some f) ≡ Some e → IsGreatestBelow (f ∷ es) key e
      which below rest None none same = at_first below none (some_entry f e same)
      which below rest (Some g) found same = behind (rest (found ∙ same))

      by : (b : Bool) → is_lt (key_cmp (key_of f) key) ≡ b → (last_below es key ≡ Some e → IsGreatestBelow es key e)
          → (if b then option_or (last_below es key) (Some f) else None) ≡ Some e → IsGreatestBelow (f ∷ es) key e
      by true test rest found = which (below-lt (key_of f) key test) rest (last_below es key) refl found
      by false test rest found = cc

  pub none-above : (es : List Entry) → first_above es key ≡ None → (g : Entry) → In g es → KeyBelow key (key_of g) → ⊥
  none-above [] none g there above = absurd there
  none-above (f ∷ es) none g there above = by (is_lt (key_cmp key (key_of f))) refl (none-above es) none
    where
      by : (b : Bool) → is_lt (key_cmp key (key_of f)) ≡ b → (first_above es key ≡ None → (h : Entry) → In h es
          → KeyBelow key (key_of h) → ⊥) → (if b then Some f else first_above es key) ≡ None → ⊥
      by true test rest is = cc
      by false test rest is = elim there [
        | inl same ↦ never (sym (lt-below key (key_of f) (subst (λ x. KeyBelow key (key_of x)) same above)) ∙ test)
        | inr old ↦ rest is g old above
      ]

  pub first-above : (es : List Entry) → IsRising es → (e : Entry) → first_above es key ≡ Some e → IsLeastAbove es key e
  first-above [] rising e is = cc
  first-above (f ∷ es) rising e is = by (is_lt (key_cmp key (key_of f))) refl (first-above es rising.1 e) is
    where
      at_first : KeyBelow key (key_of f) → f ≡ e → IsLeastAbove (f ∷ es) key e
      at_first above same = record {
        has = inl (sym same);
        above = subst (λ x. KeyBelow key (key_of x)) same above;
        least = λ g there more. elim there [
          | inl is ↦ inl (is ∙ same)
          | inr old ↦ inr (subst (λ x. KeyBelow (key_of x) (key_of g)) same
              (Each-in (λ x. KeyBelow (key_of f) (key_of x)) es g rising.0 old))
        ];
      }

      behind : is_lt (key_cmp key (key_of f)) ≡ false → IsLeastAbove es key e → IsLeastAbove (f ∷ es) key e
      behind test first = record {
        has = inr first.has;
        above = first.above;
        least = λ g there more. elim there [
          | inl is ↦ absurd (never (sym (lt-below key (key_of f) (subst (λ x. KeyBelow key (key_of x)) is more))
              ∙ test))
          | inr old ↦ first.least g old more
        ];
      }

      by : (b : Bool) → is_lt (key_cmp key (key_of f)) ≡ b → (first_above es key ≡ Some e → IsLeastAbove es key e)
          → (if b then Some f else first_above es key) ≡ Some e → IsLeastAbove (f ∷ es) key e
      by true test rest found = at_first (below-lt key (key_of f) test) (some_entry f e found)
      by false test rest found = behind test (rest found)
