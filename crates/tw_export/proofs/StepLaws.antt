-- Steps taken in one after another.
use Rattle.std.proofs.Common.{◌≡◌, ℕ, ◌+◌, ◌<◌, ◌≤◌, List, [], ◌∷◌, ◌++◌, length, get_or, drop, reverse, refl, ap, sym}
use Rattle.std.proofs.Common.{◌∙◌, subst}
use Rattle.std.proofs.lemmas.List.{drop_all, drop_more, reverse-append}
use Rattle.tw_base.specs.kinds.Lists.{Each}
use Rattle.tw_base.proofs.lemmas.kinds.ListLemmas.{Each-append}
use Rattle.tw_disk.specs.Found.{Found, ◌>>=◌}
use Rattle.tw_disk.specs.Found.Found.{Is, Bad}
use Rattle.tw_disk.specs.Image.{Image}
use Rattle.tw_disk.proofs.FoundLaws.{in_turn}
use Rattle.tw_skiplist.specs.declared.step_records.StepRecord.{StepRecord}
use Rattle.tw_export.specs.Exporting.{SoFar, step_on, steps_on}

module _ (dig : List ℕ → List ℕ) (ps : Image) (s : SoFar) (records : List StepRecord) (i : ℕ) where
  pub steps-end : length records ≤ i → steps_on dig ps s (drop i records) ≡ Is s
  unfolding steps_on
  steps-end end = ap (λ (rs : List StepRecord). steps_on dig ps s rs) (drop_all i records end)

  pub steps-more : (r : StepRecord) → i < length records → r ≡ get_or records i r
      → steps_on dig ps s (drop i records)
      ≡ (step_on dig ps s r >>= (λ next. steps_on dig ps next (drop (i + 1) records)))
  unfolding steps_on
  steps-more r within is =
      ap (λ (rs : List StepRecord). steps_on dig ps s rs) (drop_more records i r within
      ∙ ap (λ (x : StepRecord). x ∷ drop (i + 1) records) (sym is))

pub ruleset steps_go_on = (steps-end, steps-more)

-- ---- one step more behind them

module _ (dig : List ℕ → List ℕ) (ps : Image) where
  alone : (one : Found SoFar) → (one >>= (λ s. steps_on dig ps s [])) ≡ one
  unfolding steps_on
  alone (Is s) = refl
  alone (Bad page) = refl

  pub steps-push : (s : SoFar) (rs : List StepRecord) (r : StepRecord) → steps_on dig ps s (rs ++ r ∷ [])
      ≡ (steps_on dig ps s rs >>= (λ last. step_on dig ps last r))
  unfolding steps_on
  steps-push s [] r = alone (step_on dig ps s r)
  steps-push s (x ∷ rs) r =
      (λ i. step_on dig ps s x >>= (λ next. steps-push next rs r i))
      ∙ sym (in_turn (step_on dig ps s x) (λ next. steps_on dig ps next rs) (λ last. step_on dig ps last r))

-- ---- the other order

-- what holds of each record holds of each in the other order
pub Each-reverse : {X : Type 0} (P : X → Type 0) (xs : List X) → Each P xs → Each P (reverse xs)
Each-reverse P [] all = tt
Each-reverse P (x ∷ xs) all = subst (Each P) (sym (reverse-append (x ∷ []) xs))
    (Each-append P (reverse xs) (x ∷ []) (Each-reverse P xs all.1) (all.0, tt))
