-- What the program writes of a verdict on evidence.
use Rattle.std.specs.Prelude.{ℕ, List, [], ◌∷◌, ◌++◌, codes}
use Rattle.tw_base.specs.declared.history.thread.Entry.{Entry}
use Rattle.tw_base.specs.declared.history.report.Reason.TheVariants.{Malformed as NoWord}
use Rattle.tw_base.specs.history.Reasons.{reason_number}
use Rattle.tw_text.specs.Lines.{line}
use Rattle.tw_text.specs.Reports.{rejected_text}
use Rattle.tw_text.specs.declared.field.Field.TheVariants.{Word, Number, Named, Hex}
use Rattle.tw_evidence.specs.declared.fork.ForkReason.{ForkReason}
use Rattle.tw_evidence.specs.declared.fork.ForkReason.TheVariants.{Malformed, Part, NoConflict, BadLink}
use Rattle.tw_evidence.specs.declared.fork.ForkVerdict.{ForkVerdict}
use Rattle.tw_evidence.specs.declared.fork.ForkVerdict.TheVariants.{Yes, No}

-- the thread of an entry, and the service and the step that received it
abbrev pub entry_line : (head : List ℕ) → Entry → (by : List ℕ) → List ℕ
entry_line head entry by =
    line head (Named entry.thread.from ∷ Number entry.thread.step ∷ Hex entry.thread.auth ∷ Named by ∷ Number entry.archived ∷ [])

-- the line of evidence that isn't accepted, with the number and the name of the reason: of bytes that are none as of those that are no
-- proof; of a proof that isn't accepted its number, and the number of the reason against it
abbrev pub reason_text : ForkReason → List ℕ
reason_text (Malformed place) = rejected_text (NoWord place)
reason_text (Part number reason) =
    line (codes "rejected") (Number 10 ∷ Word (codes "Part") ∷ Number number ∷ Number (reason_number reason) ∷ [])
reason_text NoConflict = line (codes "rejected") (Number 11 ∷ Word (codes "NoConflict") ∷ [])
reason_text BadLink = line (codes "rejected") (Number 12 ∷ Word (codes "BadLink") ∷ [])

-- the lines of accepted evidence, or the one of evidence that isn't
abbrev pub fork_text : ForkVerdict → List ℕ
fork_text (Yes f) =
    line (codes "accepted fork") []
    ++ (entry_line (codes "first") f.first f.first_by ++ entry_line (codes "second") f.second f.second_by)
fork_text (No reason) = reason_text reason
