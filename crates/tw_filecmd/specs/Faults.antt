-- How the faults of what a command calls are told.
use Rattle.std.specs.Prelude.{ℕ, List}
use Rattle.tw_base.specs.declared.kinds.limits.TheConstants.{MOST_HISTORY_BYTES}
use Rattle.tw_history.specs.declared.fault.HistoryFault.{HistoryFault}
use Rattle.tw_history.specs.declared.fault.HistoryFault.TheVariants as history
use Rattle.tw_history.specs.declared.fault.ShowFault.{ShowFault}
use Rattle.tw_history.specs.declared.fault.ShowFault.TheVariants as show
use Rattle.tw_text.specs.declared.refusal.BadInput.TheVariants.{BadByte, Unsound}
use Rattle.tw_base.specs.declared.history.refusal.Refusal.TheVariants.{NoStep, NoEvent}
use Rattle.tw_text.specs.declared.fault.CommandFault.{CommandFault}
use Rattle.tw_text.specs.declared.fault.CommandFault.TheVariants.{Refused, Unreadable, NoMemory}

abbrev pub fault_of_show : ShowFault → CommandFault
fault_of_show (show.NoStep last) = Refused (NoStep last)
fault_of_show (show.NoEvent count) = Refused (NoEvent count)
fault_of_show show.NoMemory = NoMemory

-- a fault of the history file of this name; one that is too long is refused at the byte of the limit
abbrev pub fault_of_history : (file : List ℕ) → HistoryFault → CommandFault
fault_of_history file (history.TooLong bytes) = Unreadable (BadByte file MOST_HISTORY_BYTES)
fault_of_history file (history.Malformed place) = Unreadable (BadByte file place)
fault_of_history file (history.Unsound step rule) = Unreadable (Unsound file step rule)
fault_of_history file history.NoMemory = NoMemory
