-- The bytes of a history's file, step by step, as far as they are kept.
use Rattle.std.specs.Prelude.{ℕ, ◌+◌, ◌-◌, ◌^◌, ◌&&◌, List, ◌++◌, length, min, nat_le, Bool, true, Result, Ok, Err, if◌then◌else◌}
use Rattle.tw_base.specs.declared.kinds.limits.TheConstants.{MOST_HISTORY_BYTES}
use Rattle.tw_base.specs.format.Fields.{number_bytes}
use Rattle.tw_base.specs.history.HistoryCodec.{history_magic}

-- the file so far: its bytes, which are kept while it is within its limits, their number, at most 2^64 - 1, and whether it is within them
pub record File : Type 0 where
  pub bytes : List ℕ
  pub size : ℕ
  pub is_short : Bool

-- before the first of so many steps it has the magic, the name and the number of steps
abbrev pub front_of : (name : List ℕ) → (count : ℕ) → List ℕ
front_of name count = history_magic ++ (name ++ number_bytes 8 count)

abbrev pub begun : (name : List ℕ) → (count : ℕ) → File
begun name count = record { bytes = front_of name count; size = length (front_of name count); is_short = true }

-- the file stays within its limits with these bytes of a step more, which has few new nodes or not
abbrev pub stays_short : File → (text : List ℕ) → (is_few : Bool) → Bool
stays_short f text is_few = f.is_short && (is_few && nat_le (f.size + length text) MOST_HISTORY_BYTES)

abbrev pub with_text : File → (text : List ℕ) → (is_few : Bool) → File
with_text f text is_few = record {
  bytes = if stays_short f text is_few then f.bytes ++ text else f.bytes;
  size = min (f.size + length text) (2 ^ 64 - 1);
  is_short = stays_short f text is_few;
}

-- what is told in the end: the file, where it is within its limits, and else how many bytes it would have
abbrev pub told_file : File → Result (List ℕ) ℕ
told_file f = if f.is_short then Ok f.bytes else Err f.size
