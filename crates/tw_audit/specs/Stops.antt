-- What a pass over a history keeps of it: the authenticators at the steps of the threads held of its service.
use Rattle.std.specs.Prelude.{◌≡◌, ℕ, List, [], ◌∷◌, Option, None, find, not, if◌then◌else◌}
use Rattle.std.specs.Option.{option_map}
use Rattle.std.specs.Str.{bytes_eq}
use Rattle.tw_base.specs.declared.history.thread.Thread.{Thread}
use Rattle.tw_base.specs.history.History.{History}
use Rattle.tw_base.specs.kinds.Lists.{Each}
use Rattle.tw_history.specs.Stops.{stopped_at}
use Rattle.tw_audit.specs.declared.passing.Missing.{Missing}
use Rattle.tw_audit.specs.declared.passing.Passed.{Passed}
use Rattle.tw_base.specs.history.Auth.{auth_within}
use Rattle.tw_audit.specs.Auditing.{agrees_with, auth_in}

-- what was kept of the first history of the thread's service, at its step
abbrev pub found_by_stops : List Passed → Thread → Option (List ℕ)
found_by_stops [] t = None
found_by_stops (p ∷ passed) t = if bytes_eq p.service t.from then stopped_at p.stops.items t.step else found_by_stops passed t

-- what was kept of a history answers for the threads held of its service
pub record AnswersForHeld (dig : List ℕ → List ℕ) (held : List Thread) (h : History) (p : Passed) : Type 0 where
  pub service : p.service ≡ h.name
  pub found : Each (λ (t : Thread). t.from ≡ h.name → stopped_at p.stops.items t.step ≡ auth_within dig h t.step) held

-- each history's, in their order
abbrev pub AnswerInTurn : (dig : List ℕ → List ℕ) (held : List Thread) → List History → List Passed → Type 0
AnswerInTurn dig held [] [] = Unit {0}
AnswerInTurn dig held (h ∷ hs) (p ∷ ps) = AnswersForHeld dig held h p × AnswerInTurn dig held hs ps
AnswerInTurn dig held _ _ = ⊥

-- what was kept of the family tells of each thread held what the family has there
abbrev pub AnswersAll : (dig : List ℕ → List ℕ) (family : List History) (held : List Thread) → List Passed → Type 0
AnswersAll dig family held passed = Each (λ (t : Thread). found_by_stops passed t ≡ auth_in dig family t) held

-- the first of the threads that the family doesn't have, with what it has there
abbrev pub missing_in : (dig : List ℕ → List ℕ) (family : List History) → List Thread → Option Missing
missing_in dig family threads =
    option_map (λ (t : Thread). record { held = t; found = auth_in dig family t }) (find (λ (t : Thread). not (agrees_with dig family t)) threads)
