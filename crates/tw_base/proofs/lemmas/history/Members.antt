-- An answer for one key, and what is in the list.
use Rattle.std.proofs.Common.{◌≡◌, ◌≢◌, List, [], ◌∷◌, Bool, true, false, refl, ap, sym, ◌∙◌, inl, inr}
use Rattle.std.specs.Prelude.{Some, None, cond}
use Rattle.std.specs.FinMap.{nat_cmp-IsAntisymmetric, slice_cmp-IsAntisymmetric}
use Rattle.std.specs.declared.cmp.Ordering.{Ordering}
use Rattle.std.specs.declared.cmp.Ordering.TheVariants.{Less, Equal, Greater}
use Rattle.std.specs.Cmp.Lexicographic.{slice_cmp}
use Rattle.std.specs.Ordering.{is_eq, nat_cmp, ordering_then}
use Rattle.tw_base.specs.declared.history.thread.Entry.{Entry}
use Rattle.tw_base.specs.declared.history.thread.Key.{Key}
use Rattle.tw_base.specs.history.Asking.{entry_with}
use Rattle.tw_base.specs.history.Entries.{KeyBelow, key_cmp, key_of}
use Rattle.tw_base.specs.kinds.Lists.{Each, In}
use Rattle.tw_base.specs.history.Tree.{IsRising}
use Rattle.tw_base.proofs.lemmas.kinds.ListLemmas.{Each-in}
use Rattle.tw_base.proofs.lemmas.history.KeyTests.{eq-above, same_key}

equal-key : (a b : Key) → key_cmp a b ≡ Equal → a ≡ b
equal-key a b is = by (slice_cmp nat_cmp a.from b.from) refl is
  where
    both : a.from ≡ b.from → a.step ≡ b.step → a ≡ b
    both from step = λ i. record { from = from i; step = step i }

    by : (o : Ordering) → slice_cmp nat_cmp a.from b.from ≡ o → ordering_then o (nat_cmp a.step b.step) ≡ Equal → a ≡ b
    by Less names steps = cc
    by Equal names steps = both (slice_cmp-IsAntisymmetric nat_cmp-IsAntisymmetric a.from b.from names)
        (nat_cmp-IsAntisymmetric a.step b.step steps)
    by Greater names steps = cc

-- the test of one key
tested : (key : Key) (e : Entry) → is_eq (key_cmp key (key_of e)) ≡ true → key ≡ key_of e
tested key e test = equal-key key (key_of e) (by (key_cmp key (key_of e)) refl test)
  where
    by : (o : Ordering) → key_cmp key (key_of e) ≡ o → is_eq o ≡ true → key_cmp key (key_of e) ≡ Equal
    by Less is sure = cc
    by Equal is sure = is
    by Greater is sure = cc

-- an entry that is answered is in the list
pub in-with : (es : List Entry) (key : Key) (e : Entry) → entry_with es key ≡ Some e → In e es
in-with [] key e is = cc
in-with (f ∷ es) key e is = by (is_eq (key_cmp key (key_of f))) refl (in-with es key e)
  where
    by : (b : Bool) → is_eq (key_cmp key (key_of f)) ≡ b → (entry_with es key ≡ Some e → In e es) → In e (f ∷ es)
    by true test rest =
        let some : Some f ≡ Some e = sym (ap (λ b. cond b (Some f) (entry_with es key)) test) ∙ is in
        let same : e ≡ f = cc in inl same
    by false test rest = inr (rest (sym (ap (λ b. cond b (Some f) (entry_with es key)) test) ∙ is))

-- where none is answered, no entry has the key
pub each-without : (es : List Entry) (key : Key) → entry_with es key ≡ None → Each (λ f. key_of f ≢ key) es
each-without [] key is = tt
each-without (f ∷ es) key is = by (is_eq (key_cmp key (key_of f))) refl (each-without es key)
  where
    by : (b : Bool) → is_eq (key_cmp key (key_of f)) ≡ b → (entry_with es key ≡ None → Each (λ g. key_of g ≢ key) es)
        → Each (λ g. key_of g ≢ key) (f ∷ es)
    by true test rest = absurd (let never : Some f ≡ None = sym (ap (λ b. cond b (Some f) (entry_with es key)) test)
        ∙ is in cc)
    by false test rest = (
      λ same. absurd (let sure : is_eq (key_cmp key (key_of f)) ≡ true = ap (λ k. is_eq (key_cmp key k)) same
          ∙ ap is_eq (same_key key) in let never : false ≡ true = sym test ∙ sure in cc),
      rest (sym (ap (λ b. cond b (Some f) (entry_with es key)) test) ∙ is),
    )

-- an entry of a list whose keys rise is answered for its key
pub with-in : (es : List Entry) (e : Entry) → IsRising es → In e es → entry_with es (key_of e) ≡ Some e
with-in [] e rising there = absurd there
with-in (f ∷ es) e rising (inl same) =
    ap (λ x. entry_with (x ∷ es) (key_of e)) (sym same) ∙ ap (λ b. cond b (Some e) (entry_with es (key_of e)))
    (ap is_eq (same_key (key_of e)))
with-in (f ∷ es) e rising (inr there) =
    let below = Each-in (λ g. KeyBelow (key_of f) (key_of g)) es e rising.0 there in
    ap (λ b. cond b (Some f) (entry_with es (key_of e))) (eq-above (key_of e) (key_of f) below) ∙ with-in es e rising.1
    there

-- where no entry has the key, none is answered
pub without-each : (es : List Entry) (key : Key) → Each (λ f. key_of f ≢ key) es → entry_with es key ≡ None
without-each [] key all = refl
without-each (f ∷ es) key all = by (is_eq (key_cmp key (key_of f))) refl (without-each es key all.1)
  where
    by : (b : Bool) → is_eq (key_cmp key (key_of f)) ≡ b → entry_with es key ≡ None → entry_with (f ∷ es) key ≡ None
    by true test rest = absurd (all.0 (sym (tested key f test)))
    by false test rest = ap (λ b. cond b (Some f) (entry_with es key)) test ∙ rest
