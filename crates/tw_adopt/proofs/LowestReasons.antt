-- One reason at most is the lowest that stands against the bytes of a proof.
use Rattle.std.proofs.Common.{◌≡◌, ◌∙◌, ℕ, List, refl, ap, sym, subst, arith, inl, inr}
use Rattle.std.specs.Prelude.{Bool, Some}
use Rattle.tw_base.specs.declared.history.report.Reason.{Reason}
use Rattle.tw_base.specs.declared.history.report.Reason.TheVariants.{Malformed, BadOrder, NotHeld, BadPath, BadOpening}
use Rattle.tw_base.specs.declared.history.report.Reason.TheVariants.{BadEvent, BadTree, Carried}
use Rattle.tw_base.specs.declared.history.thread.Key.{Key}
use Rattle.tw_base.specs.declared.history.thread.Thread.{Thread}
use Rattle.tw_base.specs.format.Formats.{Spells}
use Rattle.tw_base.specs.history.Reasons.{IsNoHigher, reason_number, reason_place}
use Rattle.tw_base.proofs.lemmas.format.FormatLaws.{one_value}
use Rattle.tw_chain.specs.declared.proof.Proof.{Proof}
use Rattle.tw_chain.specs.Accepting.{named}
use Rattle.tw_chain.specs.Proofs.{proof_layout}
use Rattle.tw_chain.specs.Reasons.{IsLowest, Stands, first_not_held}

numbers : (r s : Reason) → IsNoHigher r s → IsNoHigher s r → (reason_number r ≡ reason_number s)
    × (reason_place r ≡ reason_place s)
numbers r s (inl less) (inl more) = absurd (omega (arith, less, more))
numbers r s (inl less) (inr same) = absurd (let equal = same.0 in omega (arith, less, equal))
numbers r s (inr same) (inl more) = absurd (let equal = same.0 in omega (arith, more, equal))
numbers r s (inr same) (inr also) = (same.0, (let low = same.1 in let high = also.1 in omega (arith, low, high)))

abbrev key : (service : List ℕ) (step : ℕ) → Key
key service step = record { from = service; step = step }

some_key : (k l : Key) → Some k ≡ Some l → k ≡ l
some_key k l is = cc

module _ (dig : List ℕ → List ℕ) (anchors : List Thread) (strict : Bool) (bytes : List ℕ) where
  not_held : (a : List ℕ) (i : ℕ) → Stands dig anchors strict bytes (NotHeld a i)
      → (p : Proof) × Spells proof_layout bytes p × (first_not_held anchors (named p) ≡ Some (key a i))
  not_held a i (inl none) = let is : NotHeld a i ≡ Malformed none.1.0 = none.1.2 in cc
  not_held a i (inr stands) = stands

  key_once : (a b : List ℕ) (i j : ℕ) → Stands dig anchors strict bytes (NotHeld a i) → Stands dig anchors strict bytes
      (NotHeld b j) → NotHeld a i ≡ NotHeld b j
  key_once a b i j one other =
      let first = not_held a i one in
      let second = not_held b j other in
      let same : second.0 ≡ first.0 = one_value proof_layout bytes second.0 first.0 second.1 first.1 in
      let moved : first_not_held anchors (named first.0) ≡ Some (key b j) =
      subst (λ (p : Proof). first_not_held anchors (named p) ≡ Some (key b j)) same second.2 in
      ap (λ (k : Key). NotHeld k.from k.step) (some_key (key a i) (key b j) (sym first.2 ∙ moved))

  by_code : (r s : Reason) → Stands dig anchors strict bytes r → Stands dig anchors strict bytes s
      → reason_number r ≡ reason_number s
      → reason_place r ≡ reason_place s → r ≡ s
  by_code (Malformed p) (Malformed q) one other number place = ap (λ (n : ℕ). Malformed n) place
  by_code BadOrder BadOrder one other number place = refl
  by_code (NotHeld a i) (NotHeld b j) one other number place = key_once a b i j one other
  by_code (BadPath p) (BadPath q) one other number place = ap (λ (n : ℕ). BadPath n) place
  by_code (BadOpening p) (BadOpening q) one other number place = ap (λ (n : ℕ). BadOpening n) place
  by_code (BadEvent p) (BadEvent q) one other number place = ap (λ (n : ℕ). BadEvent n) place
  by_code (BadTree p) (BadTree q) one other number place = ap (λ (n : ℕ). BadTree n) place
  by_code (Carried m) (Carried n) one other number place = ap (λ (k : ℕ). Carried k) place
  by_code _ _ one other number place = absurd (omega (arith, number))

  pub lowest_once : (r s : Reason) → IsLowest dig anchors strict bytes r → IsLowest dig anchors strict bytes s → r ≡ s
  lowest_once r s one other =
      let both = numbers r s (one.lowest s other.stands) (other.lowest r one.stands) in
      by_code r s one.stands other.stands both.0 both.1
