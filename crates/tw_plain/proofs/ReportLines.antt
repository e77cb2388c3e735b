-- A report's lines, as lists of words, and that its text is theirs.
use Rattle.std.proofs.Common.{◌≡◌, ℕ, ◌<◌, ◌^◌, List, [], ◌∷◌, ◌++◌, refl, ap, sym, ◌∙◌, true}
use Rattle.std.specs.Prelude.{codes, decimal, Option, Some, None, IfSome}
use Rattle.std.specs.List.{flat_map, list_all}
use Rattle.std.specs.Option.{option_map_or}
use Rattle.std.proofs.lemmas.List.{append-nil, append_assoc}
use Rattle.tw_base.specs.declared.history.report.Claim.{Claim}
use Rattle.tw_base.specs.declared.history.report.Claim.TheVariants.{Exists, Precedes, Archived, Absent, Linked}
use Rattle.tw_base.specs.declared.history.report.Hop.{Hop}
use Rattle.tw_base.specs.declared.history.report.Report.{Report}
use Rattle.tw_base.specs.declared.history.report.Seen.{Seen}
use Rattle.tw_base.specs.declared.history.thread.Thread.{Thread}
use Rattle.tw_base.specs.kinds.Bytes.{AreBytes}
use Rattle.tw_base.specs.kinds.Lists.{Each}
use Rattle.tw_base.specs.kinds.Names.{is_name_byte, name_text}
use Rattle.tw_base.proofs.lemmas.kinds.ListLemmas.{Each-append}
use Rattle.tw_text.specs.declared.field.Field.TheVariants.{Number, Named}
use Rattle.tw_text.specs.Lines.{hex_text, line}
use Rattle.tw_text.specs.Reports.{absent_line, carried_line, claim_text, event_line, event_lines, hop_line, link_line, report_text, thread_line}
use Rattle.tw_plain.specs.Plain.{IsClaim, IsNamedStep, IsReport, IsSeen}
use Rattle.tw_plain.proofs.Cutting.{IsLine, Line, lines_text, lines_text-append}
use Rattle.tw_plain.proofs.Words.{hex-word, letters-word, name-word, number-word}

-- ---- what a hop and a carried thread have, so that a line can tell them

abbrev pub IsReadableHop : Hop → Type 0
IsReadableHop hop = IsNamedStep hop.from hop.step × IsNamedStep hop.by hop.archived

abbrev pub IsReadableThread : Thread → Type 0
IsReadableThread t = IsNamedStep t.from t.step × AreBytes t.auth

-- ---- the lines

abbrev pub event_words : Seen → Line
event_words seen =
    (codes "event", name_text seen.place.service ∷ decimal seen.place.step ∷ decimal seen.place.index ∷ hex_text seen.event ∷ [])

-- a step of the service with its time, where there is one
abbrev pub time_words : (service : List ℕ) (step : ℕ) → Option ℕ → List Line
time_words service step None = []
time_words service step (Some time) = (codes "time", name_text service ∷ decimal step ∷ decimal time ∷ []) ∷ []

abbrev pub seen_words : Seen → List Line
seen_words seen = event_words seen ∷ time_words seen.place.service seen.place.step seen.time

abbrev pub hop_words : Hop → Line
hop_words hop = (codes "hop", name_text hop.from ∷ decimal hop.step ∷ name_text hop.by ∷ decimal hop.archived ∷ [])

abbrev pub carried_words : Thread → Line
carried_words t = (codes "carried", name_text t.from ∷ decimal t.step ∷ hex_text t.auth ∷ [])

abbrev pub kind_words : (kind : List ℕ) → Line
kind_words kind = (codes "accepted", kind ∷ [])

abbrev pub kind_of : Claim → List ℕ
kind_of (Exists seen) = codes "exists"
kind_of (Precedes first second) = codes "precedes"
kind_of (Archived service step e) = codes "thread"
kind_of (Absent service step key) = codes "absent"
kind_of (Linked service step top auth) = codes "link"

abbrev pub body_words : Claim → List Line
body_words (Exists seen) = seen_words seen
body_words (Precedes first second) = seen_words first ++ seen_words second
body_words (Archived service step e) =
    (codes "thread", name_text service ∷ decimal step ∷ name_text e.thread.from ∷ decimal e.thread.step ∷ hex_text e.thread.auth ∷ decimal e.archived ∷ []) ∷ []
body_words (Absent service step key) =
    (codes "absent", name_text service ∷ decimal step ∷ name_text key.from ∷ decimal key.step ∷ []) ∷ []
body_words (Linked service step top auth) = (codes "link", name_text service ∷ decimal step ∷ decimal top ∷ hex_text auth ∷ []) ∷ []

abbrev pub claim_words : Claim → List Line
claim_words claim = kind_words (kind_of claim) ∷ body_words claim

-- behind the claim: the hops, and the threads that are carried
abbrev pub way_words : List Hop → List Thread → List Line
way_words [] [] = []
way_words [] (t ∷ ts) = carried_words t ∷ way_words [] ts
way_words (hop ∷ hops) ts = hop_words hop ∷ way_words hops ts

abbrev pub report_words : Report → List Line
report_words report = claim_words report.claim ++ way_words report.hops report.carried

-- ---- their text is the report's

time-text : (service : List ℕ) (step : ℕ) (time : Option ℕ)
    → option_map_or (λ t. line (codes "time") (Named service ∷ Number step ∷ Number t ∷ [])) time []
    ≡ lines_text (time_words service step time)
time-text service step None = refl
time-text service step (Some time) = sym (append-nil (line (codes "time") (Named service ∷ Number step ∷ Number time ∷ [])))

seen-text : (seen : Seen) → event_lines seen ≡ lines_text (seen_words seen)
seen-text seen = ap (λ t. event_line seen ++ t) (time-text seen.place.service seen.place.step seen.time)

claim-text : (claim : Claim) → claim_text claim ≡ lines_text (claim_words claim)
claim-text (Exists seen) = ap (λ t. codes "accepted exists\n" ++ t) (seen-text seen)
claim-text (Precedes first second) =
    ap (λ t. codes "accepted precedes\n" ++ t)
    (ap (λ t. t ++ event_lines second) (seen-text first) ∙ ap (λ t. lines_text (seen_words first) ++ t) (seen-text second)
    ∙ sym (lines_text-append (seen_words first) (seen_words second)))
claim-text (Archived service step e) = ap (λ t. codes "accepted thread\n" ++ t) (sym (append-nil (thread_line service step e)))
claim-text (Absent service step key) = ap (λ t. codes "accepted absent\n" ++ t) (sym (append-nil (absent_line service step key)))
claim-text (Linked service step top auth) = ap (λ t. codes "accepted link\n" ++ t) (sym (append-nil (link_line service step top auth)))

way-text : (hops : List Hop) (ts : List Thread) → flat_map hop_line hops ++ flat_map carried_line ts ≡ lines_text (way_words hops ts)
way-text [] [] = refl
way-text [] (t ∷ ts) = ap (λ text. carried_line t ++ text) (way-text [] ts)
way-text (hop ∷ hops) ts =
    append_assoc (hop_line hop) (flat_map hop_line hops) (flat_map carried_line ts)
    ∙ ap (λ text. hop_line hop ++ text) (way-text hops ts)

pub report-text : (report : Report) → report_text report ≡ lines_text (report_words report)
report-text report =
    ap (λ t. t ++ (flat_map hop_line report.hops ++ flat_map carried_line report.carried)) (claim-text report.claim)
    ∙ ap (λ t. lines_text (claim_words report.claim) ++ t) (way-text report.hops report.carried)
    ∙ sym (lines_text-append (claim_words report.claim) (way_words report.hops report.carried))

-- ---- they are lines of words

time-lines : (service : List ℕ) (step : ℕ) (time : Option ℕ) → IsNamedStep service step → IfSome time (λ t. t < 2 ^ 64)
    → Each IsLine (time_words service step time)
time-lines service step None is small = tt
time-lines service step (Some time) is small =
    ((letters-word (codes "time") refl, (name-word service is.0, (number-word step is.1, (number-word time small, tt)))), tt)

seen-lines : (seen : Seen) → IsSeen seen → Each IsLine (seen_words seen)
seen-lines seen is = (
  (
    letters-word (codes "event") refl,
    (
      name-word seen.place.service is.0.0,
      (
        number-word seen.place.step is.0.1,
        (number-word seen.place.index is.1, (hex-word seen.event is.2, tt)),
      ),
    ),
  ),
  time-lines seen.place.service seen.place.step seen.time is.0 is.3,
)

kind-line : (kind : List ℕ) → list_all is_name_byte kind ≡ true → IsLine (kind_words kind)
kind-line kind is = (letters-word (codes "accepted") refl, (letters-word kind is, tt))

claim-lines : (claim : Claim) → IsClaim claim → Each IsLine (claim_words claim)
claim-lines (Exists seen) is = (kind-line (codes "exists") refl, seen-lines seen is)
claim-lines (Precedes first second) is =
    (kind-line (codes "precedes") refl, Each-append IsLine (seen_words first) (seen_words second) (seen-lines first is.0) (seen-lines second is.1))
claim-lines (Archived service step e) is = (
  kind-line (codes "thread") refl,
  (
    (
      letters-word (codes "thread") refl,
      (
        name-word service is.0.0,
        (
          number-word step is.0.1,
          (
            name-word e.thread.from is.1.0,
            (number-word e.thread.step is.1.1, (hex-word e.thread.auth is.2, (number-word e.archived is.3, tt))),
          ),
        ),
      ),
    ),
    tt,
  ),
)
claim-lines (Absent service step key) is = (
  kind-line (codes "absent") refl,
  ((letters-word (codes "absent") refl, (name-word service is.0.0, (number-word step is.0.1, (name-word key.from is.1.0, (number-word key.step is.1.1, tt))))), tt),
)
claim-lines (Linked service step top auth) is = (
  kind-line (codes "link") refl,
  ((letters-word (codes "link") refl, (name-word service is.0.0, (number-word step is.0.1, (number-word top is.1, (hex-word auth is.2, tt))))), tt),
)

way-lines : (hops : List Hop) (ts : List Thread) → Each IsReadableHop hops → Each IsReadableThread ts → Each IsLine (way_words hops ts)
way-lines [] [] is are = tt
way-lines [] (t ∷ ts) is are =
    ((letters-word (codes "carried") refl, (name-word t.from are.0.0.0, (number-word t.step are.0.0.1, (hex-word t.auth are.0.1, tt)))), way-lines [] ts is are.1)
way-lines (hop ∷ hops) ts is are =
    ((letters-word (codes "hop") refl, (name-word hop.from is.0.0.0, (number-word hop.step is.0.0.1, (name-word hop.by is.0.1.0, (number-word hop.archived is.0.1.1, tt))))), way-lines hops ts is.1 are)

pub report-lines : (report : Report) → IsReport report → Each IsLine (report_words report)
report-lines report is =
    Each-append IsLine (claim_words report.claim) (way_words report.hops report.carried) (claim-lines report.claim is.claim)
    (way-lines report.hops report.carried is.hops is.carried)
