-- What files in memory tell.
use Rattle.std.specs.Prelude.{ℕ, List, Option, Some, None, Bool, false, ◌&&◌, ◌==◌}
use Rattle.std.specs.Str.{bytes_eq}
use Rattle.tw_hostio.specs.declared.memory_input.MemInput.{MemInput}
use Rattle.tw_outside.specs.declared.mem_inputs.MemInputs.{MemInputs}

-- the inputs that have the files
abbrev pub inputs_under : MemInput → MemInputs
inputs_under input = input.inputs

-- the calls that are to be interrupted, counted from now
abbrev pub interrupted_reads : MemInput → List ℕ
interrupted_reads input = input.interrupted

-- the most bytes that a read gives
abbrev pub most_given : MemInput → ℕ
most_given input = input.most

-- whether the file of this name is open and stands at this place, by the name of the open one, if one is, and the place where it stands
abbrev pub stands_in : Option (List ℕ) → ℕ → List ℕ → ℕ → Bool
stands_in None at name place = false
stands_in (Some open_name) at name place = bytes_eq open_name name && (at == place)
