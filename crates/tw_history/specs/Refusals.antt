-- When each refusal comes.
use Rattle.std.specs.Prelude.{◌≡◌, ℕ, ◌<◌, ◌≤◌, List, length, Result, Ok, Err}
use Rattle.tw_base.specs.declared.kinds.limits.TheConstants.{MOST_HISTORY_BYTES}
use Rattle.tw_base.specs.format.Formats.{IsPlace, Spells, SpellsNothing}
use Rattle.tw_base.specs.history.History.{History, events_at}
use Rattle.tw_base.specs.history.Sound.{IsSound}
use Rattle.tw_base.specs.history.HistoryCodec.{history_layout}
use Rattle.tw_history.specs.Rules.{IsFirstBroken}
use Rattle.tw_history.specs.declared.fault.HistoryFault.{HistoryFault}
use Rattle.tw_history.specs.declared.fault.HistoryFault.TheVariants.{Malformed, NoMemory, TooLong, Unsound}
use Rattle.tw_history.specs.declared.fault.ShowFault.{ShowFault}
use Rattle.tw_history.specs.declared.fault.ShowFault.TheVariants.{NoEvent, NoMemory as NoMemoryToShow, NoStep}

-- why a file isn't written: it would be too long, and then the refusal tells the number of its bytes; want of memory may
-- come at any time
abbrev pub TellsLength : List ℕ → HistoryFault → Type 0
TellsLength file (TooLong bytes) = (MOST_HISTORY_BYTES < length file) × (bytes ≡ length file)
TellsLength file NoMemory = Unit {0}
TellsLength file _ = ⊥

-- why a history isn't sound: the first rule that it breaks
abbrev pub TellsRule : History → HistoryFault → Type 0
TellsRule h (Unsound step rule) = IsFirstBroken h step rule
TellsRule h NoMemory = Unit {0}
TellsRule h _ = ⊥

-- the reading of a history file: the sound history that the bytes spell; else the first of these that stands: they are too
-- many; they spell no history, with the place of the first byte at which none goes on; the history that they spell breaks
-- a rule, with the first one. Want of memory may come at any time
abbrev pub ReadsHistory : List ℕ → Result History HistoryFault → Type 0
ReadsHistory bytes (Ok h) = (length bytes ≤ MOST_HISTORY_BYTES) × Spells history_layout bytes h × IsSound h
ReadsHistory bytes (Err (TooLong count)) = (MOST_HISTORY_BYTES < length bytes) × (count ≡ length bytes)
ReadsHistory bytes (Err (Malformed place)) =
    (length bytes ≤ MOST_HISTORY_BYTES) × SpellsNothing history_layout bytes × IsPlace history_layout bytes place
ReadsHistory bytes (Err (Unsound step rule)) =
    (length bytes ≤ MOST_HISTORY_BYTES) × ((h : History) × Spells history_layout bytes h × IsFirstBroken h step rule)
ReadsHistory bytes (Err NoMemory) = Unit {0}

-- why an event isn't shown: the history has no such step, and this is its last; or the step has no such event, and this
-- is how many it has; want of memory may come at any time
abbrev pub RefusesEvent : History → (step index : ℕ) → ShowFault → Type 0
RefusesEvent h step index (NoStep last) = (last ≡ length h.steps) × ((0 < step) × (step ≤ last) → ⊥)
RefusesEvent h step index (NoEvent count) =
    ((0 < step) × (step ≤ length h.steps)) × (count ≡ length (events_at h step)) × (count ≤ index)
RefusesEvent h step index NoMemoryToShow = Unit {0}
