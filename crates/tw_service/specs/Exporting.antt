-- `export`: what is found for it, and which history's file isn't written.
use Rattle.std.specs.Prelude.{ℕ, ◌-◌, ◌^◌, ◌&&◌, List, length, min, nat_le, Bool, Option, Some, None, Result, Ok, Err, if◌then◌else◌}
use Rattle.std.specs.List.{list_all}
use Rattle.tw_base.specs.declared.kinds.limits.TheConstants.{MOST_HISTORY_BYTES}
use Rattle.tw_base.specs.history.History.{History, Step}
use Rattle.tw_base.specs.history.HistoryCodec.{history_bytes}
use Rattle.tw_disk.specs.Found.{Found, ◌>>=◌}
use Rattle.tw_disk.specs.Found.Found.{Is}
use Rattle.tw_disk.specs.Image.{Image}
use Rattle.tw_skiplist.specs.declared.head.Head.{Head}
use Rattle.tw_export.specs.Exporting.{found_file}
use Rattle.tw_base.specs.declared.history.refusal.Refusal.{Refusal}
use Rattle.tw_base.specs.declared.history.refusal.Refusal.TheVariants.{TooLong}

-- ---- what is found

-- the file, or the refusal of one that would be too long
abbrev pub file_or : Result (List ℕ) ℕ → Result (List ℕ) Refusal
file_or (Ok bytes) = Ok bytes
file_or (Err size) = Err (TooLong size)

module _ (dig : List ℕ → List ℕ) (pages : Image) (name : List ℕ) (head : Head) where
  unfoldable pub history_file : Found (Result (List ℕ) Refusal)
  history_file = found_file dig pages name head >>= (λ told. Is (file_or told))

-- ---- the table

-- the file of the history is within its limit, and no step has more new nodes than the format counts
abbrev pub is_short : History → Bool
is_short h = nat_le (length (history_bytes h)) MOST_HISTORY_BYTES && list_all (λ (s : Step). nat_le (length s.fresh) 65535) h.steps

-- what is told of one that isn't written: its length, or the greatest number of 64 bits where that is more
abbrev pub told_size : History → ℕ
told_size h = min (length (history_bytes h)) (2 ^ 64 - 1)

-- what the pages of a history tell: its file, where that is within its limits, and else its length
abbrev pub file_told : History → Result (List ℕ) ℕ
file_told h = if is_short h then Ok (history_bytes h) else Err (told_size h)

abbrev pub file_refusal : History → Option Refusal
file_refusal h = if is_short h then None else Some (TooLong (told_size h))
