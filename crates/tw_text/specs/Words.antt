-- What one word of the command line can say, and the value that it then has.
use Rattle.std.specs.Prelude.{ℕ, List, [], length, slice_index, Bool, not, ◌&&◌, ◌||◌, ◌==◌, nat_le, is_ok}
use Rattle.std.specs.Char.{is_ascii_digit}
use Rattle.std.specs.List.{list_all}
use Rattle.std.specs.Str.Parse.{digits_value}
use Rattle.std.specs.Result.{result_unwrap_or}
use Rattle.hex.specs.Hex.{decode_sized}

-- a number: one decimal digit or more, with no sign and no leading zero
abbrev pub is_number : List ℕ → Bool
is_number word = nat_le 1 (length word) && (length word == 1 || not (slice_index word 0 == 48)) && list_all is_ascii_digit word

-- the number that the digits write
abbrev pub word_number : List ℕ → ℕ
word_number word = digits_value 10 word

-- a number within a range
abbrev pub is_number_within : (least most : ℕ) → List ℕ → Bool
is_number_within least most word = is_number word && nat_le least (word_number word) && nat_le (word_number word) most

-- a digest: 64 hexadecimal digits of either case
abbrev pub is_digest : List ℕ → Bool
is_digest word = is_ok (decode_sized word 32)

-- the bytes that the digits write
abbrev pub word_digest : List ℕ → List ℕ
word_digest word = result_unwrap_or (decode_sized word 32) []
