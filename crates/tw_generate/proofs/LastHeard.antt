-- The last step of a service that a history has heard of is the greatest one in its archive.
use Rattle.std.proofs.Common.{◌≡◌, ◌⊎◌, ℕ, ◌≤◌, ◌<◌, List, [], ◌∷◌, Bool, true, false, refl, ap, sym, ◌∙◌, subst, inl}
use Rattle.std.proofs.Common.{inr, arith}
use Rattle.std.specs.Prelude.{Option, Some, None, find, reverse, if◌then◌else◌}
use Rattle.std.specs.Option.{option_map_or, option_or}
use Rattle.std.specs.Str.{bytes_eq}
use Rattle.std.proofs.lemmas.List.{reverse-append}
use Rattle.std.proofs.lemmas.List.Folds.{find-append}
use Rattle.std.proofs.lemmas.Slice.Eq.{bytes_eq-Decides}
use Rattle.tw_archive.specs.Judging.{last_entry_step, last_of_peer}
use Rattle.tw_base.specs.declared.history.thread.Entry.{Entry}
use Rattle.tw_base.specs.history.History.{History}
use Rattle.tw_base.specs.history.Limits.{IsEntryInRange}
use Rattle.tw_base.specs.history.Sound.{IsSound}
use Rattle.tw_base.specs.history.Tree.{IsRising, entries, tree}
use Rattle.tw_base.specs.kinds.Lists.{Each, In}
use Rattle.tw_base.proofs.lemmas.history.Archives.{tree-has_received, tree-only_received}
use Rattle.tw_base.proofs.lemmas.history.Trees.{tree-rises}
use Rattle.tw_base.proofs.lemmas.kinds.ListLemmas.{Each-in}
use Rattle.tw_service.proofs.ReceivingLaws.{archive-ranges}
use Rattle.tw_tmap.proofs.Risen.{Rises, received-rises}
use Rattle.tw_generate.specs.Schedules.{last_heard}
use Rattle.tw_generate.specs.Summing.{last, received_by}

module _ (name : List ℕ) where
  abbrev is_of : Entry → Bool
  is_of e = bytes_eq e.thread.from name

  -- it is the last one of the service in the list, if there is one
  abbrev IsLast : List Entry → Option Entry → Type 0
  IsLast es None = (e : Entry) → In e es → e.thread.from ≡ name → ⊥
  IsLast es (Some f) = In f es × (f.thread.from ≡ name) × ((e : Entry) → In e es → e.thread.from ≡ name
      → e.thread.step ≤ f.thread.step)

  last-more : (x : Entry) (rest : List Entry) (o : Option Entry) → Rises (x ∷ rest) → IsLast rest o
      → IsLast (x ∷ rest) (option_or o (find is_of (x ∷ [])))
  last-more x rest (Some g) rises is = (
    inr is.0,
    is.1,
    λ e there from. elim there [
      | inl same ↦
          let below = Each-in _ rest g rises.0 is.0 in
          let x_from : x.thread.from ≡ name = ap (λ (y : Entry). y.thread.from) (sym same) ∙ from in
          let less : x.thread.step < g.thread.step = below (is.1 ∙ sym x_from) in
          omega (arith, less, ap (λ (y : Entry). y.thread.step) same)
      | inr more ↦ is.2 e more from
    ],
  )
  last-more x rest None rises is = by (is_of x) refl
    where
      by : (b : Bool) → is_of x ≡ b → IsLast (x ∷ rest) (if b then Some x else None)
      by true at = (
        inl refl,
        (bytes_eq-Decides x.thread.from name).0 at,
        λ e there from. elim there [
          | inl same ↦ omega (arith, ap (λ (y : Entry). y.thread.step) same)
          | inr more ↦ absurd (is e more from)
        ],
      )
      by false at = λ e there from. elim there [
        | inl same ↦
            let yes_it : is_of x ≡ true = (bytes_eq-Decides x.thread.from name).1
            (ap (λ (y : Entry). y.thread.from) (sym same) ∙ from) in
            absurd (let bad : true ≡ false = sym yes_it ∙ at in cc)
        | inr more ↦ is e more from
      ]

  last-is : (es : List Entry) → Rises es → IsLast es (find is_of (reverse es))
  last-is [] rises = λ e there from. there
  last-is (x ∷ rest) rises =
      subst (IsLast (x ∷ rest)) (sym (ap (find is_of) (reverse-append (x ∷ []) rest) ∙ find-append is_of (reverse rest)
      (x ∷ [])))
      (last-more x rest (find is_of (reverse rest)) rises (last-is rest rises.1))

  module _ (last_law : (es : List Entry) (e : Entry) → IsRising es → Each IsEntryInRange es → last_of_peer es name
      ≡ Some e
      → In e es × (e.thread.from ≡ name) × ((f : Entry) → In f es → f.thread.from ≡ name
      → (f ≡ e) ⊎ (f.thread.step < e.thread.step)))
      (no_last_law : (es : List Entry) → IsRising es → Each IsEntryInRange es → last_of_peer es name ≡ None
      → (f : Entry) → In f es → f.thread.from ≡ name → ⊥)
      (h : History) (sound : IsSound h) where
    abbrev es : List Entry
    es = entries (tree h (last h))

    pub last-entry : (e : Entry) → last_of_peer es name ≡ Some e → In e es × In e (received_by h)
        × (e.thread.from ≡ name)
    last-entry e is =
        let found = last_law es e (tree-rises h sound (last h)) (archive-ranges h sound (last h)) is in
        (found.0, tree-only_received h (last h) e found.0, found.1)

    step-is : (o q : Option Entry) → IsLast (received_by h) o → last_of_peer es name ≡ q
        → last_entry_step q ≡ option_map_or (λ (e : Entry). e.thread.step) o 0
    step-is None None is at = refl
    step-is None (Some e) is at = let there = last-entry e at in absurd (is e there.1 there.2)
    step-is (Some f) None is at =
        absurd (no_last_law es (tree-rises h sound (last h)) (archive-ranges h sound (last h)) at f
        (tree-has_received h sound (last h) (omega arith) f is.0) is.1)
    step-is (Some f) (Some e) is at =
        let there = last-entry e at in
        let found = last_law es e (tree-rises h sound (last h)) (archive-ranges h sound (last h)) at in
        let below : e.thread.step ≤ f.thread.step = is.2 e there.1 there.2 in
        let above : f.thread.step ≤ e.thread.step =
        elim (found.2 f (tree-has_received h sound (last h) (omega arith) f is.0) is.1) [
          | inl same ↦ omega (arith, ap (λ (y : Entry). y.thread.step) same)
          | inr less ↦ omega (arith, less)
        ] in
        omega (arith, below, above)

    pub last-heard : last_entry_step (last_of_peer es name) ≡ last_heard h name
    last-heard = step-is (find is_of (reverse (received_by h))) (last_of_peer es name)
        (last-is (received_by h) (received-rises h sound (last h))) refl
