-- What a pass over a history keeps of it: its authenticators at the steps that were shown.
use Rattle.std.specs.Prelude.{◌≡◌, ℕ, ◌+◌, List, [], ◌∷◌, Bool, false, Option, Some, None, if◌then◌else◌, Result, Ok, Err}
use Rattle.std.specs.Option.{option_map_or}
use Rattle.std.specs.Str.{bytes_eq}
use Rattle.tw_base.specs.history.History.{History}
use Rattle.tw_base.specs.kinds.Lists.{Each}
use Rattle.tw_history.specs.declared.stops.Stop.{Stop}
use Rattle.tw_history.specs.Stops.{stopped_at}
use Rattle.tw_base.specs.history.Auth.{auth_within}
use Rattle.tw_adopt.specs.declared.adopted.AdoptFault.{AdoptFault}
use Rattle.tw_adopt.specs.declared.adopted.AdoptFault.TheVariants.{Differs, NoMemory}
use Rattle.tw_adopt.specs.declared.adopted.Adopted.{Adopted}
use Rattle.tw_adopt.specs.declared.receiving.Receiving.{Receiving}
use Rattle.tw_adopt.specs.Adopting.{adopted_by}

-- the authenticator that was found is this one
abbrev pub is_auth_found : Option (List ℕ) → (held : List ℕ) → Bool
is_auth_found found held = option_map_or (λ auth. bytes_eq auth held) found false

module _ (dig : List ℕ → List ℕ) (h : History) where
  -- what was kept tells what the history has at each step shown
  abbrev pub AnswersForShown : List Receiving → List Stop → Type 0
  AnswersForShown shown stops = Each (λ (t : Receiving). stopped_at stops t.entry.thread.step ≡ auth_within dig h t.entry.thread.step) shown

  -- the first of what was shown from which the history differs, counted from this number on
  abbrev pub differing : (number : ℕ) → List Receiving → Option AdoptFault
  differing number [] = None
  differing number (t ∷ shown) =
      if is_auth_found (auth_within dig h t.entry.thread.step) t.entry.thread.auth then differing (number + 1) shown
      else Some (Differs number t.entry.thread.step t.entry.thread.auth (auth_within dig h t.entry.thread.step))

-- the history is taken over by what was shown, or there was no memory
abbrev pub IsHistoryTaken : History → Receiving → Result Adopted AdoptFault → Type 0
IsHistoryTaken h t (Ok a) = a ≡ adopted_by h t
IsHistoryTaken h t (Err NoMemory) = Unit {0}
IsHistoryTaken h t (Err _) = ⊥
