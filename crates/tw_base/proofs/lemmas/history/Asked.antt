-- What a list whose keys rise answers, where it is cut at an entry.
use Rattle.std.proofs.Common.{◌≡◌, List, [], ◌∷◌, ◌++◌, Bool, true, false, refl, ap, ◌∙◌}
use Rattle.std.specs.Prelude.{Option, Some, None, cond, find, if◌then◌else◌}
use Rattle.std.specs.Option.{option_or}
use Rattle.std.specs.declared.cmp.Ordering.TheVariants.{Less, Equal, Greater}
use Rattle.std.specs.Ordering.{is_eq, is_lt}
use Rattle.std.proofs.lemmas.List.Folds.{find-append}
use Rattle.tw_base.specs.declared.history.thread.Entry.{Entry}
use Rattle.tw_base.specs.declared.history.thread.Key.{Key}
use Rattle.tw_base.specs.history.Asking.{entry_with, first_above, last_below}
use Rattle.tw_base.specs.history.Entries.{KeyBelow, key_cmp, key_of}
use Rattle.tw_base.specs.kinds.Lists.{Each}
use Rattle.tw_base.specs.history.Tree.{IsRising}
use Rattle.tw_base.proofs.lemmas.history.Keys.{KeyBelow-trans}
use Rattle.tw_base.proofs.lemmas.kinds.ListLemmas.{Each-map, Each-parts}
use Rattle.tw_base.proofs.lemmas.history.KeyTests.{below-lt, below-other, eq-above, eq-below, lt-above, lt-below}

-- a rising list, cut at an entry
pub record Cut (front : List Entry) (e : Entry) (back : List Entry) : Type 0 where
  pub lower : Each (λ f. KeyBelow (key_of f) (key_of e)) front
  pub upper : Each (λ f. KeyBelow (key_of e) (key_of f)) back
  pub front_rises : IsRising front
  pub back_rises : IsRising back

pub cut : (front : List Entry) (e : Entry) (back : List Entry) → IsRising (front ++ e ∷ back) → Cut front e back
cut [] e back rising = record { lower = tt; upper = rising.0; front_rises = tt; back_rises = rising.1 }
cut (f ∷ front) e back rising =
    let rest = cut front e back rising.1 in
    let above = Each-parts (λ g. KeyBelow (key_of f) (key_of g)) front (e ∷ back) rising.0 in
    record {
      lower = (above.1.0, rest.lower);
      upper = rest.upper;
      front_rises = (above.0, rest.front_rises);
      back_rises = rest.back_rises;
    }

pub find-none : (test : Entry → Bool) (es : List Entry) → Each (λ f. test f ≡ false) es → find test es ≡ None
find-none test [] all = refl
find-none test (e ∷ es) all = ap (λ b. cond b (Some e) (find test es)) all.0 ∙ find-none test es all.1

pub or-none : (o : Option Entry) → option_or o None ≡ o
or-none None = refl
or-none (Some e) = refl

module _ (key : Key) where
  abbrev IsKey : Entry → Bool
  IsKey f = is_eq (key_cmp key (key_of f))

  lacks_above : (e : Entry) (back : List Entry) → KeyBelow key (key_of e) → Each (λ f. KeyBelow (key_of e) (key_of f))
      back → Each (λ f. IsKey f ≡ false) back
  lacks_above e back less all = Each-map _ (λ f. IsKey f ≡ false) back
      (λ f more. eq-below key (key_of f) (KeyBelow-trans key (key_of e) (key_of f) less more)) all

  -- below the key there is none of it
  lacks_below : (e : Entry) (front : List Entry) → is_lt (key_cmp key (key_of e)) ≡ false
      → Each (λ f. KeyBelow (key_of f) (key_of e)) front → Each (λ f. IsKey f ≡ false) front
  lacks_below e front never all =
      Each-map _ (λ f. IsKey f ≡ false) front
      (λ f less. eq-above key (key_of f) (below-other (key_of f) (key_of e) key less never)) all

  pub with-less : (front : List Entry) (e : Entry) (back : List Entry) → IsRising (front ++ e ∷ back)
      → key_cmp key (key_of e) ≡ Less → entry_with (front ++ e ∷ back) key ≡ entry_with front key
  with-less front e back rising less =
      let none = find-none IsKey (e ∷ back)
      (eq-below key (key_of e) less, lacks_above e back less (cut front e back rising).upper) in
      find-append IsKey front (e ∷ back) ∙ ap (option_or (find IsKey front)) none ∙ or-none (find IsKey front)

  past_front : (front : List Entry) (e : Entry) (back : List Entry) → IsRising (front ++ e ∷ back)
      → is_lt (key_cmp key (key_of e)) ≡ false → entry_with (front ++ e ∷ back) key ≡ entry_with (e ∷ back) key
  past_front front e back rising never =
      find-append IsKey front (e ∷ back) ∙ ap (λ o. option_or o (find IsKey (e ∷ back)))
      (find-none IsKey front (lacks_below e front never (cut front e back rising).lower))

  pub with-equal : (front : List Entry) (e : Entry) (back : List Entry) → IsRising (front ++ e ∷ back)
      → key_cmp key (key_of e) ≡ Equal → entry_with (front ++ e ∷ back) key ≡ Some e
  with-equal front e back rising same =
      past_front front e back rising (ap is_lt same) ∙ ap (λ b. cond b (Some e) (find IsKey back)) (ap is_eq same)

  pub with-more : (front : List Entry) (e : Entry) (back : List Entry) → IsRising (front ++ e ∷ back)
      → key_cmp key (key_of e) ≡ Greater → entry_with (front ++ e ∷ back) key ≡ entry_with back key
  with-more front e back rising more =
      past_front front e back rising (ap is_lt more) ∙ ap (λ b. cond b (Some e) (find IsKey back)) (ap is_eq more)

  abbrev IsLower : Entry → Bool
  IsLower f = is_lt (key_cmp (key_of f) key)

  pub below-left : (front : List Entry) (e : Entry) (back : List Entry) → IsLower e ≡ false
      → last_below (front ++ e ∷ back) key ≡ last_below front key
  below-left [] e back never = ap (λ b. if b then option_or (last_below back key) (Some e) else None) never
  below-left (f ∷ front) e back never = ap (λ o. if IsLower f then option_or o (Some f) else None)
      (below-left front e back never)

  some_or : (o : Option Entry) (e f : Entry) → option_or (option_or o (Some e)) (Some f) ≡ option_or o (Some e)
  some_or None e f = refl
  some_or (Some g) e f = refl

  last-right : (front : List Entry) (e : Entry) (back : List Entry) → Each (λ f. KeyBelow (key_of f) (key_of e)) front
      → IsLower e ≡ true → last_below (front ++ e ∷ back) key ≡ option_or (last_below back key) (Some e)
  last-right [] e back lower sure = ap (λ b. if b then option_or (last_below back key) (Some e) else None) sure
  last-right (f ∷ front) e back lower sure =
      let here = lt-below (key_of f) key (KeyBelow-trans (key_of f) (key_of e) key lower.0
      (below-lt (key_of e) key sure)) in
      ap (λ b. if b then option_or (last_below (front ++ e ∷ back) key) (Some f) else None) here
      ∙ ap (λ o. option_or o (Some f)) (last-right front e back lower.1 sure) ∙ some_or (last_below back key) e f

  pub below-right : (front : List Entry) (e : Entry) (back : List Entry) → IsRising (front ++ e ∷ back)
      → IsLower e ≡ true → last_below (front ++ e ∷ back) key ≡ option_or (last_below back key) (Some e)
  below-right front e back rising sure = last-right front e back (cut front e back rising).lower sure

  abbrev IsUpper : Entry → Bool
  IsUpper f = is_lt (key_cmp key (key_of f))

  pub above-left : (front : List Entry) (e : Entry) (back : List Entry) → IsUpper e ≡ true
      → first_above (front ++ e ∷ back) key ≡ option_or (first_above front key) (Some e)
  above-left front e back sure =
      find-append IsUpper front (e ∷ back)
      ∙ ap (λ b. option_or (find IsUpper front) (cond b (Some e) (find IsUpper back))) sure

  pub above-right : (front : List Entry) (e : Entry) (back : List Entry) → IsRising (front ++ e ∷ back)
      → IsUpper e ≡ false → first_above (front ++ e ∷ back) key ≡ first_above back key
  above-right front e back rising never =
      let lower = Each-map _ (λ f. IsUpper f ≡ false) front (λ f less. lt-above key (key_of f)
      (below-other (key_of f) (key_of e) key less never)) (cut front e back rising).lower in
      find-append IsUpper front (e ∷ back) ∙ ap (λ o. option_or o (find IsUpper (e ∷ back)))
      (find-none IsUpper front lower)
      ∙ ap (λ b. cond b (Some e) (find IsUpper back)) never
