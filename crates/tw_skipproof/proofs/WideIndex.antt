-- An index of more than 32 bits: no step has an event of it, and none of the greatest of 32 bits.
use Rattle.std.proofs.Common.{◌≡◌, ℕ, ◌<◌, ◌≤◌, List, length, min, subst, arith, inl, inr}
use Rattle.std.proofs.lemmas.Bool.{cases_lt}
use Rattle.tw_base.specs.history.History.{History, events_at}
use Rattle.tw_base.specs.history.Sound.{IsSound}
use Rattle.tw_base.proofs.lemmas.history.SoundEvents.{sound-may_record}
use Rattle.tw_skipproof.specs.HistoryProofs.{IsExistenceOf, MakesExistence}

pub few_events : (h : History) (step : ℕ) → IsSound h → length (events_at h step) ≤ 1024
few_events h step sound = (sound-may_record h step sound).are.count

pub makes_at : (dig : List ℕ → List ℕ) (h : History) (step index top : ℕ) (bytes : List ℕ) → IsSound h
    → MakesExistence dig h step (min index 4294967295) top bytes
    → MakesExistence dig h step index top bytes
makes_at dig h step index top bytes sound makes = elim (cases_lt 4294967295 index) [
  | inl more ↦
      let p = makes.0 in
      let is : IsExistenceOf dig h step (min index 4294967295) top p = makes.2 in
      let inside : min index 4294967295 < length (events_at h step) = is.inside in
      absurd (omega (arith, inside, few_events h step sound, more))
  | inr less ↦
      let same : min index 4294967295 ≡ index = omega (arith, less) in
      subst (λ i. MakesExistence dig h step i top bytes) same makes
]
