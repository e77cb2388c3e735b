-- `show`: when an event of a history file is shown, when it isn't, and what the command comes to.
use Rattle.std.specs.Prelude.{◌≡◌, ◌⊎◌, ℕ, ◌<◌, ◌≤◌, List, length, Option, Some, Result, Ok, Err}
use Rattle.sha2.specs.Sha256.{sha256}
use Rattle.tw_base.specs.declared.history.thread.Thread.{Thread}
use Rattle.tw_base.specs.history.Anchors.{anchor_of}
use Rattle.tw_base.specs.history.Auth.{auth}
use Rattle.tw_base.specs.format.Formats.{IsPlace, Spells, SpellsNothing}
use Rattle.tw_base.specs.history.History.{History}
use Rattle.tw_base.specs.history.Sound.{IsSound}
use Rattle.tw_base.specs.kinds.Faults.{Rose}
use Rattle.tw_outside.specs.Asked.{Asked}
use Rattle.tw_outside.specs.Files.{Files, IsThere, TellsBytes}
use Rattle.tw_chain.specs.Accepting.{Accepts}
use Rattle.tw_skipproof.specs.HistoryProofs.{MakesExistence}
use Rattle.tw_base.specs.declared.kinds.limits.TheConstants.{MOST_HISTORY_BYTES}
use Rattle.tw_base.specs.history.HistoryCodec.{history_layout}
use Rattle.tw_history.specs.Refusals.{RefusesEvent}
use Rattle.tw_history.specs.Rules.{IsFirstBroken}
use Rattle.tw_history.specs.declared.fault.ShowFault.TheVariants as fault
use Rattle.tw_text.specs.declared.refusal.BadInput.TheVariants.{BadByte, Unsound}
use Rattle.tw_base.specs.declared.history.refusal.Refusal.{Refusal}
use Rattle.tw_base.specs.declared.history.refusal.Refusal.TheVariants.{NoStep, NoEvent}
use Rattle.tw_text.specs.declared.fault.CommandFault.{CommandFault}
use Rattle.tw_text.specs.declared.fault.CommandFault.TheVariants.{Refused, Unreadable, InputFault, NoMemory}

-- the bytes are a history file of this sound history
pub record IsHistoryFileOf (bytes : List ℕ) (h : History) : Type 0 where
  pub short : length bytes ≤ MOST_HISTORY_BYTES
  pub spelled : Spells history_layout bytes h
  pub sound : IsSound h

-- the file is there; where the inputs tell its bytes, they are the file of a sound history for which P holds
pub record OfHistory (told : Option Files) (file : List ℕ) (P : History → Type 0) : Type 0 where
  pub there : IsThere told file
  pub holds : (bytes : List ℕ) → TellsBytes told file bytes → (h : History) × IsHistoryFileOf bytes h × P h

-- the bytes are the proof that the history has of this event, with its last step as the top; so whoever holds the
-- history's authenticator of that step accepts them
pub record ProvesEvent (step index : ℕ) (proof : List ℕ) (h : History) : Type 0 where
  pub makes : MakesExistence sha256 h step index (length h.steps) proof
  pub accepted : (anchors : List Thread) (anchor : Thread) → anchor_of anchors h.name (length h.steps) ≡ Some anchor
      → anchor.auth ≡ auth sha256 h (length h.steps) → Accepts sha256 anchors proof

-- the history has no such step, and its last one is told; or the step no such event, and the number of its events is told
abbrev pub RefusesToShow : (step index : ℕ) → Refusal → History → Type 0
RefusesToShow step index (NoStep last) h = RefusesEvent h step index (fault.NoStep last)
RefusesToShow step index (NoEvent count) h = RefusesEvent h step index (fault.NoEvent count)
RefusesToShow step index _ h = ⊥

-- the place at which the bytes are no history file: the limit, where they are more than that; else that of the first byte at
-- which no history file goes on
abbrev pub IsBadByte : (bytes : List ℕ) (place : ℕ) → Type 0
IsBadByte bytes place =
    ((MOST_HISTORY_BYTES < length bytes) × (place ≡ MOST_HISTORY_BYTES))
    ⊎ ((length bytes ≤ MOST_HISTORY_BYTES) × SpellsNothing history_layout bytes × IsPlace history_layout bytes place)

-- the bytes are the file of a history of which this is the first step that breaks a rule, and the first rule that it breaks
abbrev pub BreaksRule : (bytes : List ℕ) (step rule : ℕ) → Type 0
BreaksRule bytes step rule =
    (length bytes ≤ MOST_HISTORY_BYTES) × ((h : History) × Spells history_layout bytes h × IsFirstBroken h step rule)

-- what it comes to; want of memory is free
abbrev pub ShowComes : Asked → (file : List ℕ) → (step index : ℕ) → Result (List ℕ) CommandFault → Type 0
ShowComes a file step index (Ok proof) = OfHistory a.told file (ProvesEvent step index proof)
ShowComes a file step index (Err (Refused refusal)) = OfHistory a.told file (RefusesToShow step index refusal)
ShowComes a file step index (Err (Unreadable (BadByte named place))) =
    (named ≡ file) × IsThere a.told file × ((bytes : List ℕ) → TellsBytes a.told file bytes → IsBadByte bytes place)
ShowComes a file step index (Err (Unreadable (Unsound named broken rule))) =
    (named ≡ file) × IsThere a.told file × ((bytes : List ℕ) → TellsBytes a.told file bytes → BreaksRule bytes broken rule)
ShowComes a file step index (Err InputFault) = Rose a.before a.after
ShowComes a file step index (Err NoMemory) = Unit {0}
ShowComes a file step index _ = ⊥
