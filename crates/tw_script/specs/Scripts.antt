-- Reading a script: line after line, each by what the lines before it made.
use Rattle.std.specs.Prelude.{◌≡◌, ℕ, suc, List, [], ◌∷◌, length, slice_index, take, Bool, ◌||◌, ◌==◌, nat_lt, Option, Some, None, Result, Ok, Err, if◌then◌else◌}
use Rattle.std.specs.List.{count_by, slice_split}
use Rattle.std.specs.Option.{option_and_then, option_map_or}
use Rattle.tw_msg.specs.AnchorsFile.{is_line_feed}
use Rattle.tw_script.specs.Allowed.{made_by, may_follow, nothing_made}
use Rattle.tw_script.specs.LineTable.{line_of}
use Rattle.tw_script.specs.declared.limits.TheConstants.{MOST_SCRIPT_BYTES}
use Rattle.tw_script.specs.declared.line.Line.{Line}
use Rattle.tw_script.specs.declared.made.Made.{Made}
use Rattle.tw_script.specs.declared.script.NumberedLine.{NumberedLine}
use Rattle.tw_script.specs.declared.script.ScriptFault.{ScriptFault}
use Rattle.tw_script.specs.declared.script.ScriptFault.TheVariants.{BadLine, TooLong, NoMemory}

-- the texts between line feeds; what is behind the last one is a text too, and where it is empty it is skipped, as every empty one
abbrev pub line_texts : List ℕ → List (List ℕ)
line_texts bytes = slice_split is_line_feed bytes

-- an empty text, or one that begins with # (35)
abbrev pub is_skipped : List ℕ → Bool
is_skipped text = length text == 0 || slice_index text 0 == 35

-- the line that the text is, where it may follow what was made
unfoldable pub allowed_line : Made → (text : List ℕ) → Option Line
allowed_line made text = option_and_then (λ line. if may_follow made line then Some line else None) (line_of text)

-- a line and those behind it, where they are read
abbrev pub in_front : NumberedLine → Result (List NumberedLine) ℕ → Result (List NumberedLine) ℕ
in_front line (Ok lines) = Ok (line ∷ lines)
in_front line (Err number) = Err number

-- the lines that texts are, the first of which has this number, with their numbers; or the number of the first that isn't allowed
unfoldable pub read_lines : Made → (number : ℕ) → List (List ℕ) → Result (List NumberedLine) ℕ
read_lines made number [] = Ok []
read_lines made number (text ∷ texts) =
    if is_skipped text then read_lines made (suc number) texts
    else option_map_or (λ line. in_front (record { number = number; line = line }) (read_lines (made_by made line) (suc number) texts))
    (allowed_line made text) (Err number)

-- the number of the line in which the byte at this place stands; places are counted from 0, lines from 1
abbrev pub line_number_at : (place : ℕ) → List ℕ → ℕ
line_number_at place bytes = suc (count_by is_line_feed (take place bytes))

-- a number of a line that isn't allowed, as a fault
abbrev pub told : Result (List NumberedLine) ℕ → Result (List NumberedLine) ScriptFault
told (Ok script) = Ok script
told (Err line) = Err (BadLine line)

-- the script of some bytes: they are too long first of all, told by the line of the first byte past the limit
unfoldable pub script_of : List ℕ → Result (List NumberedLine) ScriptFault
script_of bytes =
    if nat_lt MOST_SCRIPT_BYTES (length bytes) then Err (TooLong (line_number_at MOST_SCRIPT_BYTES bytes))
    else told (read_lines nothing_made 1 (line_texts bytes))

-- a reader answers the script of the bytes, or why they are none. Want of memory is free
abbrev pub ReadsScript : List ℕ → Result (List NumberedLine) ScriptFault → Type 0
ReadsScript bytes (Err NoMemory) = Unit {0}
ReadsScript bytes result = script_of bytes ≡ result
