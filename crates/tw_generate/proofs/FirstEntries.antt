-- The first entry of a service among those that were received.
use Rattle.std.proofs.Common.{◌≡◌, ℕ, suc, zero, ◌≤◌, List, [], ◌∷◌, ◌++◌, Bool, true, false, refl, ap, sym, ◌∙◌, inl}
use Rattle.std.proofs.Common.{inr, arith}
use Rattle.std.specs.Prelude.{Option, Some, None, find, nat_le, ◌&&◌, if◌then◌else◌}
use Rattle.std.specs.Option.{option_or, option_to_list}
use Rattle.std.specs.Str.{bytes_eq}
use Rattle.std.proofs.lemmas.Bool.{and_from, and_parts, le-leb, leb-true}
use Rattle.std.proofs.lemmas.List.Folds.{find-append}
use Rattle.std.proofs.lemmas.Slice.Eq.{bytes_eq-Decides}
use Rattle.tw_base.specs.declared.history.thread.Entry.{Entry}
use Rattle.tw_base.specs.history.History.{History, entry_at, received}
use Rattle.tw_base.specs.kinds.Lists.{In}
use Rattle.tw_base.proofs.lemmas.history.Trees.{entry_at-parts}
use Rattle.tw_base.proofs.lemmas.kinds.ListLemmas.{In-cases_append}
use Rattle.tw_tmap.specs.Bounds.{first_from}

abbrev is_from : (from : List ℕ) (least : ℕ) → Entry → Bool
is_from from least e = bytes_eq e.thread.from from && nat_le least e.thread.step

module _ {X : Type 0} (p : X → Bool) where
  find-there : (xs : List X) (x : X) → In x xs → p x ≡ true → (y : X) × (find p xs ≡ Some y)
  find-there [] x there is = absurd there
  find-there (z ∷ xs) x there is = by (p z) refl there (λ rest. find-there xs x rest is)
    where
      by : (b : Bool) → p z ≡ b → In x (z ∷ xs) → (In x xs → (y : X) × (find p xs ≡ Some y))
          → (y : X) × ((if b then Some z else find p xs) ≡ Some y)
      by true at there rest = (z, refl)
      by false at there rest = elim there [
        | inl same ↦ absurd (let bad : true ≡ false = sym is ∙ ap p same ∙ at in cc)
        | inr more ↦ rest more
      ]

  find-is : (xs : List X) (y : X) → find p xs ≡ Some y → In y xs × (p y ≡ true)
  find-is [] y is = cc
  find-is (z ∷ xs) y is = by (p z) refl is (λ rest. find-is xs y rest)
    where
      by : (b : Bool) → p z ≡ b → (if b then Some z else find p xs) ≡ Some y
          → (find p xs ≡ Some y → In y xs × (p y ≡ true)) → In y (z ∷ xs) × (p y ≡ true)
      by true at is rest = let same : z ≡ y = cc in (inl (sym same), ap p (sym same) ∙ at)
      by false at is rest = let more = rest is in (inr more.0, more.1)

  find-stays : (xs ys : List X) (y : X) → find p xs ≡ Some y → find p (xs ++ ys) ≡ Some y
  find-stays xs ys y is = find-append p xs ys ∙ ap (λ (o : Option X). option_or o (find p ys)) is

pub first-there : (from : List ℕ) (least : ℕ) (es : List Entry) (e : Entry) → In e es → e.thread.from ≡ from
    → least ≤ e.thread.step
    → (x : Entry) × (first_from from least es ≡ Some x)
first-there from least es e there is least_is =
    find-there (is_from from least) es e there
    (and_from (bytes_eq e.thread.from from) (nat_le least e.thread.step) ((bytes_eq-Decides e.thread.from from).1 is)
    (le-leb least e.thread.step least_is))

pub first-is : (from : List ℕ) (least : ℕ) (es : List Entry) (e : Entry) → first_from from least es ≡ Some e
    → In e es × (e.thread.from ≡ from) × (least ≤ e.thread.step)
first-is from least es e is =
    let found = find-is (is_from from least) es e is in
    let both = and_parts (bytes_eq e.thread.from from) (nat_le least e.thread.step) found.1 in
    (found.0, (bytes_eq-Decides e.thread.from from).0 both.0, leb-true least e.thread.step both.1)

pub first-stays : (from : List ℕ) (least : ℕ) (es more : List Entry) (e : Entry) → first_from from least es ≡ Some e
    → first_from from least (es ++ more) ≡ Some e
first-stays from least es more e is = find-stays (is_from from least) es more e is

-- what was received up to a step
pub received-at : (h : History) (i : ℕ) (e : Entry) → In e (received h i) → (entry_at h e.archived ≡ Some e)
    × (e.archived ≤ i)
unfolding received
received-at h zero e there = absurd there
received-at h (suc i) e there = elim (In-cases_append e (received h i) (option_to_list (entry_at h (suc i))) there) [
  | inl old ↦ let rest = received-at h i e old in (rest.0, omega (arith, rest.1))
  | inr new ↦ by (entry_at h (suc i)) refl new
]
  where
    by : (o : Option Entry) → entry_at h (suc i) ≡ o → In e (option_to_list o) → (entry_at h e.archived ≡ Some e)
        × (e.archived ≤ suc i)
    by None at there = absurd there
    by (Some f) at (inl same) =
        let archived : f.archived ≡ suc i = sym (entry_at-parts h (suc i) f at).0 in
        let here : e.archived ≡ suc i = ap (λ (x : Entry). x.archived) same ∙ archived in
        (ap (entry_at h) here ∙ at ∙ ap (λ (x : Entry). Some x) (sym same), omega (arith, here))
    by (Some f) at (inr never) = absurd never
