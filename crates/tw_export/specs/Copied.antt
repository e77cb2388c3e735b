-- Steps of the proofs that a step of events is copied into the file as it is read.
use Rattle.std.specs.Prelude.{ℕ, ◌-◌, ◌^◌, List, [], ◌++◌, take, is_some, Option}
use Rattle.tw_base.specs.declared.history.content.Content.TheVariants.{Events}
use Rattle.tw_base.specs.format.Codecs.{number_codec, optional}
use Rattle.tw_base.specs.format.Fields.{number_bytes}
use Rattle.tw_base.specs.history.HistoryCodec.{kind_of}
use Rattle.tw_disk.specs.Found.{Found, ◌>>=◌}
use Rattle.tw_disk.specs.Found.Found.{Is}
use Rattle.tw_disk.specs.Image.{Image}
use Rattle.tw_skiplist.specs.declared.step_records.StepRecord.{StepRecord}
use Rattle.tw_skiplist.specs.StepRecords.{copied_content}
use Rattle.tw_export.specs.Files.{File}

-- the file as it was while it had so many bytes
abbrev pub file_before : File → (start : ℕ) → File
file_before f start = record { bytes = take start f.bytes; size = f.size; is_short = f.is_short }

-- the kind of a step of events
abbrev pub events_kind : Option ℕ → ℕ
events_kind time = kind_of time (Events [])

-- what stands before the events of a step: its kind, and its time, if any
abbrev pub events_front : Option ℕ → List ℕ
events_front time = number_bytes 1 (events_kind time) ++ (optional (is_some time) (number_codec 8 0 (2 ^ 64 - 1))).write time

-- what stands behind them: no new nodes, and the number of the archive's root
abbrev pub events_end : (root : ℕ) → List ℕ
events_end root = number_bytes 2 0 ++ number_bytes 4 root

-- the bytes of the step of a record behind what is before them, field by field
unfoldable pub copied_step : Image → StepRecord → (root : ℕ) → (before : List ℕ) → Found (List ℕ)
copied_step pages r root before =
    copied_content pages r (before ++ events_front r.fields.time) >>= (λ now. Is (now ++ events_end root))
