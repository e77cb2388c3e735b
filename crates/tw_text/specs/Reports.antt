-- What the program writes of a verdict.
use Rattle.std.specs.Prelude.{ℕ, List, [], ◌∷◌, ◌++◌, codes}
use Rattle.std.specs.List.{flat_map}
use Rattle.std.specs.Option.{option_map_or}
use Rattle.tw_base.specs.declared.history.report.Claim.{Claim}
use Rattle.tw_base.specs.declared.history.report.Claim.TheVariants.{Exists, Precedes, Archived, Absent, Linked}
use Rattle.tw_base.specs.declared.history.report.Hop.{Hop}
use Rattle.tw_base.specs.declared.history.report.Seen.{Seen}
use Rattle.tw_base.specs.declared.history.thread.Entry.{Entry}
use Rattle.tw_base.specs.declared.history.thread.Key.{Key}
use Rattle.tw_base.specs.declared.history.thread.Thread.{Thread}
use Rattle.tw_base.specs.declared.history.report.Report.{Report}
use Rattle.tw_base.specs.declared.history.report.Reason.{Reason}
use Rattle.tw_base.specs.declared.history.report.Reason.TheVariants.{Malformed, BadOrder, NotHeld, BadPath, BadOpening, BadEvent, BadTree, Carried}
use Rattle.tw_base.specs.history.Reasons.{reason_number}
use Rattle.tw_text.specs.Lines.{line}
use Rattle.tw_text.specs.declared.field.Field.{Field}
use Rattle.tw_text.specs.declared.field.Field.TheVariants.{Word, Number, Named, Hex}

-- ---- accepted proofs

-- where an event stands, and its bytes
abbrev pub event_line : Seen → List ℕ
event_line seen =
    line (codes "event") (Named seen.place.service ∷ Number seen.place.step ∷ Number seen.place.index ∷ Hex seen.event ∷ [])

-- the time that the maker of its step claims, where there is one
abbrev pub time_line : Seen → List ℕ
time_line seen = option_map_or (λ time. line (codes "time") (Named seen.place.service ∷ Number seen.place.step ∷ Number time ∷ [])) seen.time []

-- both lines of an event
abbrev pub event_lines : Seen → List ℕ
event_lines seen = event_line seen ++ time_line seen

-- the step of a service whose thread another service received, and the step of that one which received it
abbrev pub hop_line : Hop → List ℕ
hop_line hop = line (codes "hop") (Named hop.from ∷ Number hop.step ∷ Named hop.by ∷ Number hop.archived ∷ [])

-- a thread that the proof binds to no anchor
abbrev pub carried_line : Thread → List ℕ
carried_line t = line (codes "carried") (Named t.from ∷ Number t.step ∷ Hex t.auth ∷ [])

-- a step of a service, the entry's thread, and the step that received it
abbrev pub thread_line : (service : List ℕ) (step : ℕ) → Entry → List ℕ
thread_line service step entry =
    line (codes "thread") (Named service ∷ Number step ∷ Named entry.thread.from ∷ Number entry.thread.step ∷ Hex entry.thread.auth ∷ Number entry.archived ∷ [])

-- a step of a service, and the key of which it has no thread
abbrev pub absent_line : (service : List ℕ) (step : ℕ) → Key → List ℕ
absent_line service step key = line (codes "absent") (Named service ∷ Number step ∷ Named key.from ∷ Number key.step ∷ [])

-- a step of a service, the top that it is linked from, and the authenticator at the step
abbrev pub link_line : (service : List ℕ) (step top : ℕ) (auth : List ℕ) → List ℕ
link_line service step top auth = line (codes "link") (Named service ∷ Number step ∷ Number top ∷ Hex auth ∷ [])

-- the first line of an accepted claim
abbrev pub accepted_line : Claim → List ℕ
accepted_line (Exists seen) = line (codes "accepted exists") []
accepted_line (Precedes first second) = line (codes "accepted precedes") []
accepted_line (Archived service step entry) = line (codes "accepted thread") []
accepted_line (Absent service step key) = line (codes "accepted absent") []
accepted_line (Linked service step top auth) = line (codes "accepted link") []

-- the lines of what is claimed
abbrev pub claim_lines : Claim → List ℕ
claim_lines (Exists seen) = event_lines seen
claim_lines (Precedes first second) = event_lines first ++ event_lines second
claim_lines (Archived service step entry) = thread_line service step entry
claim_lines (Absent service step key) = absent_line service step key
claim_lines (Linked service step top auth) = link_line service step top auth

abbrev pub claim_text : Claim → List ℕ
claim_text claim = accepted_line claim ++ claim_lines claim

-- the report of an accepted proof: its claim, a line for each hop, and one for each carried thread
abbrev pub report_text : Report → List ℕ
report_text report = claim_text report.claim ++ (flat_map hop_line report.hops ++ flat_map carried_line report.carried)

-- ---- proofs that an audit holds against histories

-- an audited proof that stands: the lines of its report from the second on
abbrev pub stands_text : Report → List ℕ
stands_text report =
    line (codes "stands") [] ++ (claim_lines report.claim ++ (flat_map hop_line report.hops ++ flat_map carried_line report.carried))

-- ---- proofs that are not accepted

-- the name of a reason
abbrev pub reason_name : Reason → List ℕ
reason_name (Malformed place) = codes "Malformed"
reason_name BadOrder = codes "BadOrder"
reason_name (NotHeld service step) = codes "NotHeld"
reason_name (BadPath part) = codes "BadPath"
reason_name (BadOpening part) = codes "BadOpening"
reason_name (BadEvent part) = codes "BadEvent"
reason_name (BadTree part) = codes "BadTree"
reason_name (Carried count) = codes "Carried"

-- what the reason tells besides
abbrev pub reason_fields : Reason → List Field
reason_fields (Malformed place) = Number place ∷ []
reason_fields BadOrder = []
reason_fields (NotHeld service step) = Named service ∷ Number step ∷ []
reason_fields (BadPath part) = Number part ∷ []
reason_fields (BadOpening part) = Number part ∷ []
reason_fields (BadEvent part) = Number part ∷ []
reason_fields (BadTree part) = Number part ∷ []
reason_fields (Carried count) = Number count ∷ []

-- why a proof is not accepted
abbrev pub rejected_text : Reason → List ℕ
rejected_text reason = line (codes "rejected") (Number (reason_number reason) ∷ Word (reason_name reason) ∷ reason_fields reason)

-- ---- proofs that don't join

-- the number of the part that doesn't fit, or is missing behind all
abbrev pub gap_text : (place : ℕ) → List ℕ
gap_text place = line (codes "rejected") (Word (codes "Gap") ∷ Number place ∷ [])
