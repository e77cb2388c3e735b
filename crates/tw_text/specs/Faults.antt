-- Why a command isn't done: the status of each fault, and its line.
use Rattle.std.specs.Prelude.{◌≡◌, ℕ, List, Result, Ok, Err}
use Rattle.tw_base.specs.declared.kinds.failure.InputFault.{InputFault as ReadingFault}
use Rattle.tw_base.specs.declared.kinds.failure.InputFault.TheVariants as reading
use Rattle.tw_base.specs.format.Formats.{Format, IsPlace, Spells, SpellsNothing}
use Rattle.tw_text.specs.Lines.{fault_disk_text, fault_input_text, no_memory_text}
use Rattle.tw_text.specs.Refusals.{bad_input_text, not_followed_text, refused_text, store_text, store_taken_text}
use Rattle.tw_text.specs.declared.fault.CommandFault.{CommandFault}
use Rattle.tw_text.specs.declared.fault.CommandFault.TheVariants.{InputFault, DiskFault, NoMemory, Taken, Refused, NotFollowed, Unserved, Unreadable}
use Rattle.tw_text.specs.declared.refusal.BadInput.TheVariants.{BadByte}

abbrev pub fault_status : CommandFault → ℕ
fault_status InputFault = 3
fault_status DiskFault = 5
fault_status NoMemory = 6
fault_status Taken = 7
fault_status (Refused refusal) = 7
fault_status (NotFollowed refusal) = 7
fault_status (Unserved cause) = 8
fault_status (Unreadable bad) = 9

abbrev pub fault_text : CommandFault → List ℕ
fault_text InputFault = fault_input_text
fault_text DiskFault = fault_disk_text
fault_text NoMemory = no_memory_text
fault_text Taken = store_taken_text
fault_text (Refused refusal) = refused_text refusal
fault_text (NotFollowed refusal) = not_followed_text refusal
fault_text (Unserved cause) = store_text cause
fault_text (Unreadable bad) = bad_input_text bad

-- it is told by a line `refused`: what was asked for isn't there, or may not be made
abbrev pub IsRefused : CommandFault → Type 0
IsRefused Taken = Unit {0}
IsRefused (Refused refusal) = Unit {0}
IsRefused (NotFollowed refusal) = Unit {0}
IsRefused _ = ⊥

-- a fault of reading, as the command's
abbrev pub fault_of_input : ReadingFault → CommandFault
fault_of_input reading.Failed = InputFault
fault_of_input reading.NoMemory = NoMemory

-- the value that the bytes of the named file spell; or the place of the first byte at which none goes on. Want of memory is free
abbrev pub IsReadAs : {X : Type 0} → Format X → (file bytes : List ℕ) → Result X CommandFault → Type 0
IsReadAs layout file bytes (Ok x) = Spells layout bytes x
IsReadAs layout file bytes (Err (Unreadable (BadByte named place))) = (named ≡ file) × (SpellsNothing layout bytes × IsPlace layout bytes place)
IsReadAs layout file bytes (Err NoMemory) = Unit {0}
IsReadAs layout file bytes _ = ⊥
