-- What the code answers of the lines of a file.
use Rattle.std.specs.Prelude.{◌≡◌, ℕ, List, ◌++◌, Result, Ok, Err}
use Rattle.tw_script.specs.Allowed.{nothing_made}
use Rattle.tw_script.specs.Scripts.{line_texts, read_lines}
use Rattle.tw_script.specs.declared.script.NumberedLine.{NumberedLine}
use Rattle.tw_script.specs.declared.script.ScriptFault.{ScriptFault}
use Rattle.tw_script.specs.declared.script.ScriptFault.TheVariants.{BadLine, TooLong, NoMemory}
use Rattle.tw_script.specs.declared.stop.Stop.{Stop}
use Rattle.tw_script.specs.declared.stop.Stop.TheVariants.{NotAllowed}

-- the lines of a file that isn't too long, or the first that isn't allowed. Want of memory is free
abbrev pub ReadsLines : List ℕ → Result (List NumberedLine) ScriptFault → Type 0
ReadsLines bytes (Ok script) = read_lines nothing_made 1 (line_texts bytes) ≡ Ok script
ReadsLines bytes (Err (BadLine line)) = read_lines nothing_made 1 (line_texts bytes) ≡ Err line
ReadsLines bytes (Err (TooLong line)) = ⊥
ReadsLines bytes (Err NoMemory) = Unit {0}

-- lines that were read, and then those of the rest
abbrev pub ahead : List NumberedLine → Result (List NumberedLine) ℕ → Result (List NumberedLine) ℕ
ahead lines (Ok more) = Ok (lines ++ more)
ahead lines (Err number) = Err number

-- the fault that a line with this number tells, where it stopped so
abbrev pub fault_at : (number : ℕ) → Stop → ScriptFault
fault_at number NotAllowed = BadLine number
fault_at number _ = NoMemory
