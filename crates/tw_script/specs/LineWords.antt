-- The words of a line, and what one of them can say.
use Rattle.std.specs.Prelude.{ℕ, List, [], length, codes, nat_le, Option, Some, None, if◌then◌else◌}
use Rattle.std.specs.List.{slice_split}
use Rattle.std.specs.Result.{result_ok}
use Rattle.std.specs.Str.{bytes_eq}
use Rattle.hex.specs.Hex.{decode_of}
use Rattle.tw_msg.specs.AnchorsFile.{is_blank}
use Rattle.tw_script.specs.declared.line.CrashChoice.{CrashChoice}
use Rattle.tw_script.specs.declared.line.CrashChoice.TheVariants.{Old, New, Zeros, Ones}

-- the words of a line: one blank stands between two, so that none stands before the first or behind the last, nor two together
abbrev pub words : List ℕ → List (List ℕ)
words line = slice_split is_blank line

-- bytes: each as two hexadecimal digits of either case, at least one byte, or `-` for none
abbrev pub bytes_value : List ℕ → Option (List ℕ)
bytes_value word =
    if bytes_eq word (codes "-") then Some []
    else if nat_le 1 (length word) then result_ok (decode_of word)
    else None

-- what a crash leaves of each page written since the last good barrier: its old bytes, its new ones, zeros, or bytes of the value 1
abbrev pub choice_value : List ℕ → Option CrashChoice
choice_value word =
    if bytes_eq word (codes "0") then Some Old
    else if bytes_eq word (codes "1") then Some New
    else if bytes_eq word (codes "2") then Some Zeros
    else if bytes_eq word (codes "3") then Some Ones
    else None
