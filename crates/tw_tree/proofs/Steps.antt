-- One step down a tree whose keys rise, and what it leaves of an answer.
use Rattle.std.proofs.Common.{◌≡◌, List, ◌∷◌, ◌++◌, true, false, refl, ap, sym, ◌∙◌, subst}
use Rattle.std.specs.Prelude.{Option, Some, None}
use Rattle.std.specs.Option.{option_or}
use Rattle.std.specs.declared.cmp.Ordering.TheVariants.{Less, Equal, Greater}
use Rattle.std.specs.Ordering.{is_lt}
use Rattle.tw_base.specs.declared.history.thread.Entry.{Entry}
use Rattle.tw_base.specs.declared.history.thread.Key.{Key}
use Rattle.tw_base.specs.history.Asking.{entry_with, first_above, last_below}
use Rattle.tw_base.specs.history.Entries.{key_cmp, key_of}
use Rattle.tw_base.specs.history.Tree.{Tree, IsRising, entries}
use Rattle.tw_base.specs.history.Tree.Tree.{Branch}
use Rattle.tw_base.proofs.lemmas.history.Asked.{above-left, above-right, below-left, below-right, cut, with-equal}
use Rattle.tw_base.proofs.lemmas.history.Asked.{with-less, with-more}

-- the side rises, and an answer over it and what was met before is that over the tree and what was met before it
abbrev pub Down : (answer : List Entry → Option Entry) (t side : Tree) (before after : Option Entry) → Type 0
Down answer t side before after = IsRising (entries side) × (option_or (answer (entries side)) after ≡ option_or
    (answer (entries t)) before)

some_over : (o : Option Entry) (e : Entry) (p : Option Entry) → option_or o (Some e) ≡ option_or
    (option_or o (Some e)) p
some_over None e p = refl
some_over (Some f) e p = refl

module _ (key : Key) (t l : Tree) (e : Entry) (r : Tree) (is : t ≡ Branch l e r) (rising : IsRising (entries t)) where
  rises : IsRising (entries l ++ e ∷ entries r)
  rises = let P : Tree → Type 0 = λ u. IsRising (entries u) in subst P is rising

  left_rises : IsRising (entries l)
  left_rises = (cut (entries l) e (entries r) rises).front_rises

  right_rises : IsRising (entries r)
  right_rises = (cut (entries l) e (entries r) rises).back_rises

  pub with-left : key_cmp key (key_of e) ≡ Less → IsRising (entries l)
      × (entry_with (entries l) key ≡ entry_with (entries t) key)
  with-left less =
      (left_rises, sym (ap (λ u. entry_with (entries u) key) is ∙ with-less key (entries l) e (entries r) rises less))

  pub with-here : key_cmp key (key_of e) ≡ Equal → Some e ≡ entry_with (entries t) key
  with-here same = sym (ap (λ u. entry_with (entries u) key) is ∙ with-equal key (entries l) e (entries r) rises same)

  pub with-right : key_cmp key (key_of e) ≡ Greater → IsRising (entries r)
      × (entry_with (entries r) key ≡ entry_with (entries t) key)
  with-right more =
      (right_rises, sym (ap (λ u. entry_with (entries u) key) is ∙ with-more key (entries l) e (entries r) rises more))

  pub before-right : (nearest : Option Entry) → is_lt (key_cmp (key_of e) key) ≡ true → Down (λ es. last_below es key) t
      r nearest (Some e)
  before-right nearest sure = (
    right_rises,
    some_over (last_below (entries r) key) e nearest
        ∙ ap (λ o. option_or o nearest)
        (sym (ap (λ u. last_below (entries u) key) is ∙ below-right key (entries l) e (entries r) rises sure)),
  )

  pub before-left : (nearest : Option Entry) → is_lt (key_cmp (key_of e) key) ≡ false → Down (λ es. last_below es key) t
      l nearest nearest
  before-left nearest never = (
    left_rises,
    ap (λ o. option_or o nearest)
        (sym (ap (λ u. last_below (entries u) key) is ∙ below-left key (entries l) e (entries r) never)),
  )

  pub after-left : (nearest : Option Entry) → is_lt (key_cmp key (key_of e)) ≡ true → Down (λ es. first_above es key) t
      l nearest (Some e)
  after-left nearest sure = (
    left_rises,
    some_over (first_above (entries l) key) e nearest
        ∙ ap (λ o. option_or o nearest)
        (sym (ap (λ u. first_above (entries u) key) is ∙ above-left key (entries l) e (entries r) sure)),
  )

  pub after-right : (nearest : Option Entry) → is_lt (key_cmp key (key_of e)) ≡ false → Down (λ es. first_above es key)
      t r nearest nearest
  after-right nearest never = (
    right_rises,
    ap (λ o. option_or o nearest)
        (sym (ap (λ u. first_above (entries u) key) is ∙ above-right key (entries l) e (entries r) rises never)),
  )
