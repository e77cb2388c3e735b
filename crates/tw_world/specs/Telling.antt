-- The text of what is told of a schedule's lines.
use Rattle.std.specs.Prelude.{ℕ, List, [], ◌∷◌, ◌++◌, codes, decimal, length, map, Bool, false, Option, Some, None}
use Rattle.std.specs.List.{count_by}
use Rattle.std.specs.Str.{bytes_eq}
use Rattle.tw_base.specs.history.History.{History}
use Rattle.tw_base.specs.declared.history.thread.Key.{Key}
use Rattle.tw_script.specs.declared.script.NumberedLine.{NumberedLine}
use Rattle.tw_text.specs.Lines.{line}
use Rattle.tw_text.specs.Refusals.{refusal_name}
use Rattle.tw_text.specs.Summaries.{replayed_line}
use Rattle.tw_text.specs.declared.field.Field.{Field}
use Rattle.tw_text.specs.declared.field.Field.TheVariants.{Number, Word}
use Rattle.tw_world.specs.declared.told.Answer.{Answer}
use Rattle.tw_world.specs.declared.told.Answer.TheVariants.{Done, Stepped, Sent, Archived, Filed, Accepted, Rejected, NotJoined, Refused, Nothing}
use Rattle.tw_world.specs.declared.told.Told.{Told}
use Rattle.tw_world.specs.declared.told.Told.TheVariants.{Plain, Crashed, Stopped}

-- ---- a line

abbrev pub answer_fields : Answer → List Field
answer_fields Done = Word (codes "ok") ∷ []
answer_fields (Stepped step) = Word (codes "step") ∷ Number step ∷ []
answer_fields (Sent n) = Word (codes "message") ∷ Number n ∷ []
answer_fields (Archived step) = Word (codes "receipt") ∷ Number step ∷ []
answer_fields (Filed n) = Word (codes "file") ∷ Number n ∷ []
answer_fields Accepted = Word (codes "accepted") ∷ []
answer_fields (Rejected reason) = Word (codes "rejected") ∷ Number reason ∷ []
answer_fields (NotJoined place) = Word (codes "rejected") ∷ Word (codes "Gap") ∷ Number place ∷ []
answer_fields (Refused refusal) = Word (codes "refused") ∷ Word (refusal_name refusal) ∷ []
answer_fields Nothing = Word (codes "none") ∷ []

abbrev pub reopened_fields : (steps : ℕ) → List Field
reopened_fields steps = Word (codes "reopened") ∷ Number steps ∷ []

abbrev pub told_fields : Told → List Field
told_fields (Plain answer) = answer_fields answer
told_fields (Crashed answer steps) = answer_fields answer ++ reopened_fields steps
told_fields (Stopped steps) = Word (codes "stopped") ∷ reopened_fields steps

-- the answer, where the line wasn't stopped
abbrev pub answer_told : Told → Option Answer
answer_told (Plain answer) = Some answer
answer_told (Crashed answer steps) = Some answer
answer_told (Stopped steps) = None

-- the line's number in the file, and its answer
abbrev pub told_line : (n : ℕ) → Told → List ℕ
told_line n told = line (decimal n) (told_fields told)

-- those of a script's lines, one after another
unfoldable pub told_lines : List NumberedLine → List Told → List ℕ
told_lines (l ∷ lines) (told ∷ more) = told_line l.number told ++ told_lines lines more
told_lines _ _ = []

-- ---- the last line

-- the first field is this word
abbrev pub begins_with : (word : List ℕ) → List Field → Bool
begins_with word (Word first ∷ fields) = bytes_eq first word
begins_with word _ = false

-- how many answers begin with the word
abbrev pub told_count_of : (word : List ℕ) → List Told → ℕ
told_count_of word told = count_by (λ (t : Told). begins_with word (told_fields t)) told

-- the history's name and the number of its steps
abbrev pub history_key : History → Key
history_key h = record { from = h.name; step = length h.steps }

-- all that is written of a script's lines, what is told of them, and the histories at the end
abbrev pub replayed_text : List NumberedLine → List Told → List History → List ℕ
replayed_text lines told family =
    told_lines lines told ++ replayed_line (told_count_of (codes "accepted") told) (told_count_of (codes "none") told)
    (told_count_of (codes "refused") told) (told_count_of (codes "rejected") told) (map history_key family)
