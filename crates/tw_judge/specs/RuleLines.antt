-- The lines that tell a broken rule: its number and name, and what both files say that breaks it.
use Rattle.std.specs.Prelude.{ℕ, ◌-◌, List, [], ◌∷◌, ◌++◌, Option, Some, None, codes}
use Rattle.std.specs.Option.{option_map_or}
use Rattle.tw_base.specs.declared.history.thread.Entry.{Entry}
use Rattle.tw_base.specs.history.Entries.{key_of}
use Rattle.tw_text.specs.Lines.{line}
use Rattle.tw_text.specs.Reports.{absent_line, thread_line}
use Rattle.tw_text.specs.declared.field.Field.{Field}
use Rattle.tw_text.specs.declared.field.Field.TheVariants.{Word, Number, Named, Hex}
use Rattle.tw_contradict.specs.declared.facts.Conflict.{Conflict}
use Rattle.tw_contradict.specs.declared.facts.Facts.{Facts}
use Rattle.tw_contradict.specs.declared.facts.Lack.{Lack}
use Rattle.tw_contradict.specs.declared.facts.Rule.{Rule}
use Rattle.tw_contradict.specs.declared.facts.Rule.TheVariants.{Denied, OwnThread, ReceivedLater, TwoEntries, TwoAtOneStep, StepsFall}
use Rattle.tw_contradict.specs.declared.facts.Rule.TheVariants.{EventsToo, ClockBack, TwoAuthenticators, OtherThanLine, TwoLines}
use Rattle.tw_contradict.specs.declared.facts.Rule.TheVariants.{OtherBefore, OtherBeforeLine, OtherGenesis, OtherEmptyRoot}

-- the numbers of the rules: their order
abbrev pub broken_number : Rule → ℕ
broken_number Denied = 1
broken_number OwnThread = 2
broken_number ReceivedLater = 3
broken_number TwoEntries = 4
broken_number TwoAtOneStep = 5
broken_number StepsFall = 6
broken_number EventsToo = 7
broken_number ClockBack = 8
broken_number TwoAuthenticators = 9
broken_number OtherThanLine = 10
broken_number TwoLines = 11
broken_number OtherBefore = 12
broken_number OtherBeforeLine = 13
broken_number OtherGenesis = 14
broken_number OtherEmptyRoot = 15

abbrev pub broken_name : Rule → List ℕ
broken_name Denied = codes "Denied"
broken_name OwnThread = codes "OwnThread"
broken_name ReceivedLater = codes "ReceivedLater"
broken_name TwoEntries = codes "TwoEntries"
broken_name TwoAtOneStep = codes "TwoAtOneStep"
broken_name StepsFall = codes "StepsFall"
broken_name EventsToo = codes "EventsToo"
broken_name ClockBack = codes "ClockBack"
broken_name TwoAuthenticators = codes "TwoAuthenticators"
broken_name OtherThanLine = codes "OtherThanLine"
broken_name TwoLines = codes "TwoLines"
broken_name OtherBefore = codes "OtherBefore"
broken_name OtherBeforeLine = codes "OtherBeforeLine"
broken_name OtherGenesis = codes "OtherGenesis"
broken_name OtherEmptyRoot = codes "OtherEmptyRoot"

-- the line of the rule; that of an entry which is denied has none
abbrev pub rule_lines : Rule → List ℕ
rule_lines Denied = []
rule_lines rule = line (codes "rule") (Number (broken_number rule) ∷ Word (broken_name rule) ∷ [])

-- ---- what a file says

-- the received thread, as a report tells it
abbrev pub entry_lines : Facts → List ℕ
entry_lines facts = option_map_or (thread_line facts.service facts.step) facts.entry []

-- the service and step of the entry that is denied, as a report tells that none was received
abbrev pub lack_lines : (one other : Facts) → List ℕ
lack_lines one other =
    option_map_or (λ (e : Entry). option_map_or (λ (lack : Lack). absent_line other.service lack.upto (key_of e)) other.lack []) one.entry []

-- a time, or `-` for none
abbrev pub time_field : Option ℕ → Field
time_field None = Word (codes "-")
time_field (Some time) = Number time

-- the step, its authenticator, its count of events and its time
abbrev pub step_line : Facts → List ℕ
step_line facts =
    line (codes "step") (Named facts.service ∷ Number facts.step ∷ Hex facts.auth ∷ Number facts.count ∷ time_field facts.time ∷ [])

-- the line under which the file is accepted
abbrev pub held_line : Facts → List ℕ
held_line facts = line (codes "line") (Named facts.line.from ∷ Number facts.line.step ∷ Hex facts.line.auth ∷ [])

-- the step before, with the authenticator that the step has of it
abbrev pub before_line : Facts → List ℕ
before_line facts = line (codes "before") (Named facts.service ∷ Number (facts.step - 1) ∷ Hex facts.before ∷ [])

-- the step and the root of its events
abbrev pub root_line : Facts → List ℕ
root_line facts = line (codes "root") (Named facts.service ∷ Number facts.step ∷ Hex facts.event_root ∷ [])

-- ---- what of it breaks the rule

-- of the one file
abbrev pub first_lines : Rule → (one : Facts) → List ℕ
first_lines Denied one = entry_lines one
first_lines OwnThread one = entry_lines one
first_lines ReceivedLater one = entry_lines one
first_lines TwoEntries one = entry_lines one
first_lines TwoAtOneStep one = entry_lines one
first_lines StepsFall one = entry_lines one
first_lines EventsToo one = entry_lines one
first_lines ClockBack one = step_line one
first_lines TwoAuthenticators one = step_line one
first_lines OtherThanLine one = held_line one
first_lines TwoLines one = held_line one
first_lines OtherBefore one = before_line one
first_lines OtherBeforeLine one = before_line one
first_lines OtherGenesis one = before_line one
first_lines OtherEmptyRoot one = root_line one

-- and of the other, where the rule speaks of both
abbrev pub second_lines : Rule → (one other : Facts) → List ℕ
second_lines Denied one other = lack_lines one other
second_lines OwnThread one other = []
second_lines ReceivedLater one other = []
second_lines TwoEntries one other = entry_lines other
second_lines TwoAtOneStep one other = entry_lines other
second_lines StepsFall one other = entry_lines other
second_lines EventsToo one other = step_line other
second_lines ClockBack one other = step_line other
second_lines TwoAuthenticators one other = step_line other
second_lines OtherThanLine one other = step_line other
second_lines TwoLines one other = held_line other
second_lines OtherBefore one other = step_line other
second_lines OtherBeforeLine one other = held_line other
second_lines OtherGenesis one other = []
second_lines OtherEmptyRoot one other = []

abbrev pub conflict_lines : Conflict → List ℕ
conflict_lines c = rule_lines c.rule ++ (first_lines c.rule c.one ++ second_lines c.rule c.one c.other)
