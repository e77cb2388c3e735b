-- What is checked of two map files, and what is told of them.
use Rattle.std.specs.Prelude.{◌≡◌, ℕ, ◌-◌, ◌^◌, List, [], ◌∷◌, ◌++◌, Bool, true, false, Option, Some, None, ◌==◌, ◌&&◌, if◌then◌else◌}
use Rattle.std.specs.List.{flat_map}
use Rattle.std.specs.Option.{option_map_or}
use Rattle.std.specs.Str.{bytes_eq}
use Rattle.tw_base.specs.declared.history.report.Reason.{Reason}
use Rattle.tw_base.specs.declared.history.report.Reason.TheVariants.{NotHeld}
use Rattle.tw_base.specs.declared.history.thread.Entry.{Entry}
use Rattle.tw_base.specs.declared.history.thread.Key.{Key}
use Rattle.tw_base.specs.declared.history.thread.Thread.{Thread}
use Rattle.tw_base.specs.declared.history.tree_proof.Ask.{Ask}
use Rattle.tw_base.specs.declared.history.tree_proof.Ask.TheVariants.{Below, Above}
use Rattle.tw_base.specs.history.Reasons.{IsNoHigher}
use Rattle.tw_base.specs.kinds.Lists.{Each}
use Rattle.tw_base.specs.history.TreeProofs.{ancestors_of}
use Rattle.tw_skipproof.specs.declared.existence.Part.{Part}
use Rattle.tw_treeproof.specs.declared.shown.Shown.{Shown}
use Rattle.tw_treeproof.specs.declared.shown.Shown.TheVariants.{Nearest}
use Rattle.tw_treeproof.specs.Answers.{shown_answer}
use Rattle.tw_chain.specs.Checks.{Check, under_anchor}
use Rattle.tw_chain.specs.Checks.Check.{AnswerOf, InOrder, NeedsAnchor}
use Rattle.tw_chain.specs.Finding.{found_in}
use Rattle.tw_chain.specs.Passing.{Passes, check_texts, held_by, needed_by}
use Rattle.tw_chain.specs.Reasons.{Fails, first_not_held}
use Rattle.tw_tmap.specs.declared.map_file.HighFile.{HighFile}
use Rattle.tw_tmap.specs.declared.map_file.LowFile.{LowFile}
use Rattle.tw_tmap.specs.declared.map_file.LowPart.{LowPart}
use Rattle.tw_tmap.specs.declared.map_verdict.MapVerdict.{MapVerdict}
use Rattle.tw_tmap.specs.declared.map_verdict.MapVerdict.TheVariants.{Yes, No, Gap}

-- ---- what the files are about

-- both speak of one step of one service and of one peer
abbrev pub fit : LowFile → HighFile → Bool
fit low high = bytes_eq low.service high.peer && (low.step == high.step && bytes_eq low.peer high.service)

-- the step before the low file's, under its top
abbrev pub low_file_part : LowFile → LowPart → Part
low_file_part f p = record { service = f.service; step = f.step - 1; top = f.top; path = p.path; opening = p.opening }

-- the top of the high file, under itself: a path of no link
abbrev pub high_part : HighFile → Part
high_part f = record { service = f.service; step = f.top; top = f.top; path = record { links = [] }; opening = f.opening }

-- a service's last thread in an archive: no thread has a step of 2^40; and its first one of this step or of a later one
abbrev pub last_before : (service : List ℕ) → Ask
last_before service = Below (record { from = service; step = 2 ^ 40 })

abbrev pub first_after : (service : List ℕ) (step : ℕ) → Ask
first_after service step = Above (record { from = service; step = step - 1 })

-- the peer's last thread in the service's archive
abbrev pub low_ask : LowFile → Ask
low_ask f = last_before f.peer

-- the service's first thread of the step or a later one in the peer's archive
abbrev pub high_ask : HighFile → Ask
high_ask f = first_after f.peer f.step

-- ---- what is checked

-- of the step before the low file's: it stands under the anchor of the top, and the tree proof gives an answer there
abbrev pub before_checks : LowFile → LowPart → List Check
before_checks f p = under_anchor 0 (low_file_part f p) ++ AnswerOf 0 p.opening.archive_root (low_ask f) p.shown ∷ []

-- of the low file, which is part 0: its step isn't above its top; and what is checked of the step before, or, of step 1, that the
-- anchor of the top is held
abbrev pub low_checks : LowFile → List Check
low_checks f =
    InOrder f.step f.top
    ∷ option_map_or (before_checks f) f.shown (NeedsAnchor (record { from = f.service; step = f.top }) ∷ [])

-- of the high file, which is part 1: its top stands under its own anchor, and the tree proof gives an answer there
abbrev pub high_checks : HighFile → List Check
high_checks f = under_anchor 1 (high_part f) ++ AnswerOf 1 f.opening.archive_root (high_ask f) f.shown ∷ []

abbrev pub map_checks : LowFile → HighFile → List Check
map_checks low high = low_checks low ++ high_checks high

-- the threads that the verifier holds of both tops
abbrev pub map_held : List Thread → LowFile → HighFile → List Thread
map_held anchors low high = flat_map (held_by anchors) (map_checks low high)

-- what checking both files hashes
abbrev pub map_texts : (dig : List ℕ → List ℕ) → LowFile → HighFile → List (List ℕ)
map_texts dig low high = flat_map (check_texts dig) (map_checks low high)

-- ---- what is told

-- the step of an entry of the peer, and 0 of another one's or of none
abbrev pub step_if_of : (peer : List ℕ) → Option Entry → ℕ
step_if_of peer None = 0
step_if_of peer (Some e) = if bytes_eq e.thread.from peer then e.thread.step else 0

-- the archived step of an entry of the service, and none of another one's
abbrev pub archived_if_of : (service : List ℕ) → Option Entry → Option ℕ
archived_if_of service None = None
archived_if_of service (Some e) = if bytes_eq e.thread.from service then Some e.archived else None

-- the entry that a tree proof shows next to the asked key
abbrev pub nearest_in : Shown → Option Entry
nearest_in (Nearest entry) = entry
nearest_in _ = None

-- low: by the entry that the low file shows; 0 of step 1, before which nothing was received
abbrev pub before_told : LowFile → LowPart → ℕ
before_told f p = step_if_of f.peer (nearest_in (shown_answer (low_ask f) (ancestors_of p.shown)))

abbrev pub low_told : LowFile → ℕ
low_told f = option_map_or (before_told f) f.shown 0

-- high: by the entry that the high file shows
abbrev pub high_told : HighFile → Option ℕ
high_told f = archived_if_of f.peer (nearest_in (shown_answer (high_ask f) (ancestors_of f.shown)))

-- that the files don't fit; else the lowest reason; else both bounds, and the peer's step up to which the high one is so
abbrev pub map_verdict : (dig : List ℕ → List ℕ) → List Thread → LowFile → HighFile → MapVerdict
map_verdict dig anchors low high =
    if fit low high
    then option_map_or (λ reason. No reason) (found_in dig anchors (map_checks low high)) (Yes (low_told low) (high_told high) high.top)
    else Gap

-- they fit, and each check passes
abbrev pub AreMapFilesAccepted : (dig : List ℕ → List ℕ) → List Thread → LowFile → HighFile → Type 0
AreMapFilesAccepted dig anchors low high = (fit low high ≡ true) × Each (Passes dig anchors) (map_checks low high)

-- a check doesn't pass for this reason, which is the lowest of those for which one doesn't; of the anchors that aren't held it tells the
-- first, in the order of the checks
pub record IsLowestReason (dig : List ℕ → List ℕ) (anchors : List Thread) (cs : List Check) (reason : Reason) : Type 0 where
  pub fails : Fails dig anchors false cs reason
  pub lowest : (other : Reason) → Fails dig anchors false cs other → IsNoHigher reason other
  pub first : (key : Key) → reason ≡ NotHeld key.from key.step → first_not_held anchors (flat_map needed_by cs) ≡ Some key
