-- The outcome of what a command came to, and each outcome's status and text.
use Rattle.std.specs.Prelude.{ℕ, List, Result, Ok, Err}
use Rattle.tw_text.specs.Faults.{fault_status, fault_text}
use Rattle.tw_text.specs.Lines.{anchor_text, usage_text}
use Rattle.tw_text.specs.Reports.{gap_text, rejected_text, report_text}
use Rattle.tw_text.specs.declared.fault.CommandFault.{CommandFault}
use Rattle.tw_text.specs.declared.fault.CommandFault.TheVariants as fault
use Rattle.tw_chain.specs.declared.verdict.Verdict.TheVariants.{Yes, No}
use Rattle.tw_filecmd.specs.declared.joining.Joined.TheVariants.{Whole, Unfit}
use Rattle.tw_msg.specs.Receipts.{receipt_bytes}
use Rattle.tw_evidence.specs.declared.fork.ForkVerdict.{ForkVerdict}
use Rattle.tw_reachcmd.specs.declared.accusing.Accused.{Accused}
use Rattle.tw_reachcmd.specs.declared.accusing.Accused.TheVariants as accused
use Rattle.tw_reachcmd.specs.declared.adopting.Taken.{Taken}
use Rattle.tw_reachcmd.specs.declared.adopting.Taken.TheVariants as taken
use Rattle.tw_reachcmd.specs.declared.answer.Answer.TheVariants as answers
use Rattle.tw_reachcmd.specs.declared.auditing.Audited.{Audited}
use Rattle.tw_reachcmd.specs.declared.atlas.Planned.{Planned}
use Rattle.tw_tmap.specs.declared.map_verdict.MapVerdict.{MapVerdict}
use Rattle.tw_reachcmd.specs.Answers.{answer_status, answer_text}
use Rattle.tw_app.specs.declared.outcome.Outcome.{Outcome}
use Rattle.tw_app.specs.declared.outcome.Outcome.TheVariants.{Judged, Written, Joined, Made, Received, Answered, BadWords, Undone}

-- the outcome of a result: a fault is told as it is
abbrev pub outcome_by : {X : Type 0} → (of : X → Outcome) → Result X CommandFault → Outcome
outcome_by of (Ok value) = of value
outcome_by of (Err fault) = Undone fault

-- the outcomes of commands over files that reach beyond one proof
abbrev pub of_accused : Accused → Outcome
of_accused accused = Answered (answers.Accused accused)

abbrev pub of_planned : Planned → Outcome
of_planned planned = Answered (answers.Planned planned)

abbrev pub of_audited : Audited → Outcome
of_audited audited = Answered (answers.Audited audited)

abbrev pub of_fork : ForkVerdict → Outcome
of_fork verdict = Answered (answers.Fork verdict)

abbrev pub of_mapped : MapVerdict → Outcome
of_mapped verdict = Answered (answers.Mapped verdict)

abbrev pub of_taken : Taken → Outcome
of_taken taken = Answered (answers.Taken taken)

abbrev pub status_of : Outcome → ℕ
status_of (Judged (Yes report)) = 0
status_of (Judged (No reason)) = 1
status_of (Written bytes) = 0
status_of (Joined (Whole proof)) = 0
status_of (Joined (Unfit place)) = 1
status_of (Made thread) = 0
status_of (Received receipt) = 0
status_of (Answered answer) = answer_status answer
status_of (BadWords number) = 2
status_of (Undone fault) = fault_status fault

-- a proof, a message and a receipt are written as their bytes are, with no line feed behind them
abbrev pub text_of : Outcome → List ℕ
text_of (Judged (Yes report)) = report_text report
text_of (Judged (No reason)) = rejected_text reason
text_of (Written bytes) = bytes
text_of (Joined (Whole proof)) = proof
text_of (Joined (Unfit place)) = gap_text place
text_of (Made thread) = anchor_text thread
text_of (Received receipt) = receipt_bytes receipt
text_of (Answered answer) = answer_text answer
text_of (BadWords number) = usage_text number
text_of (Undone fault) = fault_text fault

-- the outcomes whose text is made in memory; where there is none, the run ends as one without memory does. Those that tell what
-- became of the disk, a step that was made or a fault, take none
abbrev pub TakesMemory : Outcome → Type 0
TakesMemory (Written bytes) = ⊥
TakesMemory (Joined (Whole proof)) = ⊥
TakesMemory (Made thread) = ⊥
TakesMemory (Received receipt) = ⊥
TakesMemory (Answered (answers.Accused (accused.Whole evidence))) = ⊥
TakesMemory (Answered (answers.Taken (taken.File bytes))) = ⊥
TakesMemory (Undone fault.InputFault) = ⊥
TakesMemory (Undone fault.DiskFault) = ⊥
TakesMemory (Undone fault.NoMemory) = ⊥
TakesMemory _ = Unit {0}
