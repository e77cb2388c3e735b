-- What the stops of a pass tell at the steps that were shown.
use Rattle.std.proofs.Common.{◌≡◌, ℕ, ◌≤◌, List, [], ◌∷◌, length, map, ap, sym, ◌∙◌, arith, inl, inr}
use Rattle.std.specs.Prelude.{Some, None, if◌then◌else◌}
use Rattle.std.proofs.lemmas.Bool.{cases_lt, le-leb, lt-leb}
use Rattle.tw_base.specs.history.Auth.{auth, auth_within}
use Rattle.tw_base.specs.history.History.{History}
use Rattle.tw_base.specs.kinds.Lists.{Each}
use Rattle.tw_history.specs.declared.stops.Stop.{Stop}
use Rattle.tw_history.specs.Stops.{auth_to, stopped_at}
use Rattle.tw_adopt.specs.declared.receiving.Receiving.{Receiving}
use Rattle.tw_adopt.specs.Stops.{AnswersForShown}

module _ (dig : List ℕ → List ℕ) (h : History) (last : ℕ) (inside : last ≤ length h.steps) where
  -- up to the last step shown that the history has it has as much as up to its own last
  up-to-last : (step : ℕ) → (step ≤ length h.steps → step ≤ last) → auth_to dig h last step ≡ auth_within dig h step
  up-to-last step reaches =
      elim (cases_lt (length h.steps) step) [
        | inl past ↦ ap (λ b. if b then Some (auth dig h step) else None)
            (lt-leb step last (omega (arith, past, inside)))
            ∙ sym (ap (λ b. if b then Some (auth dig h step) else None) (lt-leb step (length h.steps) past))
        | inr within ↦ ap (λ b. if b then Some (auth dig h step) else None) (le-leb step last (reaches within))
            ∙ sym (ap (λ b. if b then Some (auth dig h step) else None) (le-leb step (length h.steps) within))
      ]

  -- what was kept at each of the steps tells what the history has there
  pub stops-answer : (stops : List Stop) (shown : List Receiving)
      → Each (λ step. step ≤ length h.steps → step ≤ last) (map (λ (t : Receiving). t.entry.thread.step) shown)
      → Each (λ step. stopped_at stops step ≡ auth_to dig h last step)
      (map (λ (t : Receiving). t.entry.thread.step) shown)
      → AnswersForShown dig h shown stops
  stops-answer stops [] reached tells = tt
  stops-answer stops (t ∷ shown) reached tells =
      (tells.0 ∙ up-to-last t.entry.thread.step reached.0, stops-answer stops shown reached.1 tells.1)
