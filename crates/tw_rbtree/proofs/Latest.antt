-- The last entry of a name, of entries whose keys rise.
use Rattle.std.proofs.Common.{◌≡◌, ◌⊎◌, ℕ, ◌<◌, ◌^◌, List, refl, ap, sym, ◌∙◌, arith, inl, inr}
use Rattle.std.specs.Prelude.{Option, Some, None}
use Rattle.std.specs.FinMap.{nat_cmp-IsAntisymmetric, slice_cmp-IsAntisymmetric}
use Rattle.std.specs.declared.cmp.Ordering.{Ordering}
use Rattle.std.specs.declared.cmp.Ordering.TheVariants.{Less, Equal, Greater}
use Rattle.std.specs.Cmp.Lexicographic.{slice_cmp}
use Rattle.std.specs.Ordering.{nat_cmp, ordering_reverse, ordering_then}
use Rattle.std.proofs.lemmas.Bool.{lt-ltb}
use Rattle.std.proofs.lemmas.Cmp.{nat_list_cmp_total, ranked, tied_itself}
use Rattle.tw_base.specs.declared.history.thread.Entry.{Entry}
use Rattle.tw_base.specs.declared.history.thread.Key.{Key}
use Rattle.tw_base.specs.history.Asking.{last_below}
use Rattle.tw_base.specs.history.Entries.{KeyBelow, key_of}
use Rattle.tw_base.specs.history.Limits.{IsEntryInRange}
use Rattle.tw_base.specs.history.Tree.{IsRising}
use Rattle.tw_base.specs.kinds.Lists.{Each, In}
use Rattle.tw_base.proofs.lemmas.history.AskedLists.{last-below, none-below}
use Rattle.tw_base.proofs.lemmas.kinds.ListLemmas.{Each-in}

module _ (name : List ℕ) (top : ℕ) where
  abbrev pub top_key : Key
  top_key = record { from = name; step = top }

  -- an entry of the name is below the name's key with a greater step
  under-top : (e : Entry) → e.thread.from ≡ name → e.thread.step < top → KeyBelow (key_of e) top_key
  under-top e same less =
      let steps : nat_cmp e.thread.step top ≡ Less = rw (lt-ltb e.thread.step top less) refl in
      ap (λ (n : List ℕ). ordering_then (slice_cmp nat_cmp n name) (nat_cmp e.thread.step top)) same
      ∙ ap (λ (o : Ordering). ordering_then o (nat_cmp e.thread.step top)) (tied_itself nat_list_cmp_total name) ∙ steps

  -- a key between two of the name has the name, and a greater step than the lower one
  between : (a b : Key) → a.from ≡ name → KeyBelow a b → KeyBelow b top_key → (b.from ≡ name) × (a.step < b.step)
  between a b same less under = by (slice_cmp nat_cmp a.from b.from) refl less
    where
      over : slice_cmp nat_cmp a.from b.from ≡ Less → ⊥
      over is =
          let back : slice_cmp nat_cmp b.from name ≡ Greater = ap (slice_cmp nat_cmp b.from) (sym same)
          ∙ nat_list_cmp_total.antisymm b.from a.from ∙ ap ordering_reverse is in
          let never : Greater ≡ Less = sym (ap (λ (o : Ordering). ordering_then o (nat_cmp b.step top)) back) ∙ under in
          cc

      by : (o : Ordering) → slice_cmp nat_cmp a.from b.from ≡ o → ordering_then o (nat_cmp a.step b.step) ≡ Less
          → (b.from ≡ name) × (a.step < b.step)
      by Less is steps = absurd (over is)
      by Equal is steps = (
        sym (slice_cmp-IsAntisymmetric nat_cmp-IsAntisymmetric a.from b.from is) ∙ same,
        ranked a.step b.step Less (sym steps),
      )
      by Greater is steps = cc

  abbrev pub IsLatest : List Entry → Entry → Type 0
  IsLatest es e = (last : Entry) × (last_below es top_key ≡ Some last) × In last es × (last.thread.from ≡ name)
      × ((e ≡ last) ⊎ (e.thread.step < last.thread.step))

  module _ (es : List Entry) (rising : IsRising es) (e : Entry) (there : In e es) (same : e.thread.from ≡ name) where
    one_found : KeyBelow (key_of e) top_key → (o : Option Entry) → last_below es top_key ≡ o → IsLatest es e
    one_found below None is = absurd (none-below top_key es rising is e there below)
    one_found below (Some last) is =
        let found = last-below top_key es rising last is in
        elim (found.greatest e there below) [
          | inl one ↦ (last, is, found.has, ap (λ (x : Entry). x.thread.from) (sym one) ∙ same, inl one)
          | inr less ↦ let b = between (key_of e) (key_of last) same less found.below in
              (last, is, found.has, b.0, inr b.1)
        ]

    pub has-latest : e.thread.step < top → IsLatest es e
    has-latest less = one_found (under-top e same less) (last_below es top_key) refl

pub latest : (es : List Entry) → IsRising es → Each IsEntryInRange es → (name : List ℕ) (e : Entry) → In e es
    → e.thread.from ≡ name → IsLatest name (2 ^ 40) es e
latest es rising ranges name e there same =
    let range = Each-in IsEntryInRange es e ranges there in has-latest name (2 ^ 40) es rising e there same
    (omega (arith, range.0.1))
