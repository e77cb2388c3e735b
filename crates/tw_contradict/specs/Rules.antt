-- The rules of sound histories that two accepted files of one service can show to be broken: each by what the one file says and what the
-- other says. A rule that speaks of an entry, a lack or a time that a file has not isn't broken.
use Rattle.std.specs.Prelude.{◌≡◌, ◌⊎◌, ℕ, ◌-◌, List, [], ◌∷◌, Bool, true, false, Option, Some, None, ◌==◌, ◌&&◌, not, nat_le, nat_lt, if◌then◌else◌}
use Rattle.std.specs.Option.{option_map_or, option_or}
use Rattle.std.specs.Str.{bytes_eq}
use Rattle.tw_base.specs.declared.history.thread.Entry.{Entry}
use Rattle.tw_base.specs.kinds.Texts.{genesis_text, no_events_text}
use Rattle.tw_contradict.specs.declared.facts.Conflict.{Conflict}
use Rattle.tw_contradict.specs.declared.facts.Facts.{Facts}
use Rattle.tw_contradict.specs.declared.facts.Lack.{Lack}
use Rattle.tw_contradict.specs.declared.facts.Rule.{Rule}
use Rattle.tw_contradict.specs.declared.facts.Rule.TheVariants.{Denied, OwnThread, ReceivedLater, TwoEntries, TwoAtOneStep, StepsFall}
use Rattle.tw_contradict.specs.declared.facts.Rule.TheVariants.{EventsToo, ClockBack, TwoAuthenticators, OtherThanLine, TwoLines}
use Rattle.tw_contradict.specs.declared.facts.Rule.TheVariants.{OtherBefore, OtherBeforeLine, OtherGenesis, OtherEmptyRoot}

-- ---- entries, steps and times

-- the lack is of the entry's service and step, up to the step that received it or a later one
abbrev pub lacks_entry : Lack → Entry → Bool
lacks_entry lack e =
    bytes_eq e.thread.from lack.peer && (nat_lt lack.above e.thread.step && (nat_le e.thread.step lack.last && nat_le e.archived lack.upto))

-- both are threads of one service, and of one step of it
abbrev pub is_same_key : (e f : Entry) → Bool
is_same_key e f = bytes_eq e.thread.from f.thread.from && e.thread.step == f.thread.step

-- they are, and have two authenticators, or two steps received them
abbrev pub are_two : (e f : Entry) → Bool
are_two e f = is_same_key e f && not (bytes_eq e.thread.auth f.thread.auth && e.archived == f.archived)

-- one step received both, and they are of two services or steps
abbrev pub are_at_one_step : (e f : Entry) → Bool
are_at_one_step e f = e.archived == f.archived && not (is_same_key e f)

-- both are of one service, and the one of the lower step was received later
abbrev pub do_fall : (e f : Entry) → Bool
do_fall e f = bytes_eq e.thread.from f.thread.from && (nat_lt e.thread.step f.thread.step && nat_lt f.archived e.archived)

-- both authenticators are of one step, and differ
abbrev pub differ_at : (step : ℕ) (auth : List ℕ) (at : ℕ) (other : List ℕ) → Bool
differ_at step auth at other = step == at && not (bytes_eq auth other)

-- both times are there, and the later step's is the lower one
abbrev pub times_fall : (earlier later : Option ℕ) → Bool
times_fall earlier later = option_map_or (λ time. option_map_or (λ next. nat_lt next time) later false) earlier false

-- ---- the rules

-- it is so of the entry that the file shows
abbrev pub by_entry : (Entry → Bool) → Facts → Bool
by_entry is facts = option_map_or is facts.entry false

-- it is so of the entries that both files show
abbrev pub by_entries : (Entry → Entry → Bool) → (one other : Facts) → Bool
by_entries are one other = by_entry (λ e. by_entry (are e) other) one

-- Denied: the one shows an entry which the other lacks, up to the step that received it or a later one
abbrev pub is_denied : (one other : Facts) → Bool
is_denied one other = by_entry (λ e. option_map_or (λ lack. lacks_entry lack e) other.lack false) one

-- OwnThread: the archive has a thread of its own service
abbrev pub is_own : (one : Facts) → Bool
is_own one = by_entry (λ e. bytes_eq e.thread.from one.service) one

-- ReceivedLater: the archive has a thread that a later step received
abbrev pub is_received_later : (one : Facts) → Bool
is_received_later one = by_entry (λ e. nat_lt one.step e.archived) one

-- EventsToo: a step that received a thread has events
abbrev pub has_events_too : (one other : Facts) → Bool
has_events_too one other = by_entry (λ e. e.archived == other.step && nat_lt 0 other.count) one

-- ClockBack: an earlier step has a later time
abbrev pub goes_back : (one other : Facts) → Bool
goes_back one other = nat_lt one.step other.step && times_fall one.time other.time

-- OtherGenesis: the first step doesn't go on from the service's step 0
abbrev pub has_other_genesis : (dig : List ℕ → List ℕ) → (one : Facts) → Bool
has_other_genesis dig one = differ_at (one.step - 1) one.before 0 (dig (genesis_text one.service))

-- OtherEmptyRoot: a step without events has another root than that of none, or one with events has that root
abbrev pub has_other_empty_root : (dig : List ℕ → List ℕ) → (one : Facts) → Bool
has_other_empty_root dig one =
    let is_root_of_none : Bool = bytes_eq one.event_root (dig no_events_text) in
    if one.count == 0 then not is_root_of_none else is_root_of_none

-- what asking for the rule hashes that no history need hash
abbrev pub rule_texts : Rule → List (List ℕ)
rule_texts OtherEmptyRoot = no_events_text ∷ []
rule_texts _ = []

-- all rules, in the order in which they are looked at
abbrev pub rules : List Rule
rules =
    Denied ∷ OwnThread ∷ ReceivedLater ∷ TwoEntries ∷ TwoAtOneStep ∷ StepsFall ∷ EventsToo ∷ ClockBack ∷ TwoAuthenticators ∷ OtherThanLine
    ∷ TwoLines ∷ OtherBefore ∷ OtherBeforeLine ∷ OtherGenesis ∷ OtherEmptyRoot ∷ []

module _ (dig : List ℕ → List ℕ) where
  -- what the one file says and what the other says, in this order, break the rule
  unfoldable pub breaks : Rule → (one other : Facts) → Bool
  breaks Denied one other = is_denied one other
  breaks OwnThread one other = is_own one
  breaks ReceivedLater one other = is_received_later one
  -- a thread of one service and step has two authenticators, or two steps received it
  breaks TwoEntries one other = by_entries are_two one other
  -- one step received two threads
  breaks TwoAtOneStep one other = by_entries are_at_one_step one other
  -- of two threads of one service that of the lower step was received later
  breaks StepsFall one other = by_entries do_fall one other
  breaks EventsToo one other = has_events_too one other
  breaks ClockBack one other = goes_back one other
  -- one step has two authenticators
  breaks TwoAuthenticators one other = differ_at one.step one.auth other.step other.auth
  -- the step of a line has another authenticator than the line
  breaks OtherThanLine one other = differ_at one.line.step one.line.auth other.step other.auth
  -- two lines of one step differ
  breaks TwoLines one other = differ_at one.line.step one.line.auth other.line.step other.line.auth
  -- a step doesn't go on from the step before it, as the other shows that one
  breaks OtherBefore one other = differ_at (one.step - 1) one.before other.step other.auth
  -- the step after that of a line doesn't go on from the line
  breaks OtherBeforeLine one other = differ_at (one.step - 1) one.before other.line.step other.line.auth
  breaks OtherGenesis one other = has_other_genesis dig one
  breaks OtherEmptyRoot one other = has_other_empty_root dig one

  -- both files break the rule, in this order or in the other
  unfoldable pub broken : Rule → (one other : Facts) → Option Conflict
  broken rule one other =
      if breaks rule one other then Some (record { rule = rule; one = one; other = other })
      else (if breaks rule other one then Some (record { rule = rule; one = other; other = one }) else None)

  -- the first of the rules that they break
  unfoldable pub first_broken : List Rule → (one other : Facts) → Option Conflict
  first_broken [] one other = None
  first_broken (rule ∷ more) one other = option_or (broken rule one other) (first_broken more one other)

  -- the first of all rules that files of one service break; none where they are of two services
  unfoldable pub conflict_of : (one other : Facts) → Option Conflict
  conflict_of one other = if bytes_eq one.service other.service then first_broken rules one other else None

  -- ---- what is so of the first rule that is broken, and where none is

  -- both files are of one service; the conflict tells them in one order or the other; and in that order they break its rule
  pub record IsBroken (one other : Facts) (conflict : Conflict) : Type 0 where
    pub service : one.service ≡ other.service
    pub files : ((conflict.one ≡ one) × (conflict.other ≡ other)) ⊎ ((conflict.one ≡ other) × (conflict.other ≡ one))
    pub breaks : breaks conflict.rule conflict.one conflict.other ≡ true

  -- files of one service break none of the rules, in neither order
  abbrev pub BreakNone : (one other : Facts) → Type 0
  BreakNone one other = one.service ≡ other.service → (rule : Rule) → (breaks rule one other ≡ false) × (breaks rule other one ≡ false)
