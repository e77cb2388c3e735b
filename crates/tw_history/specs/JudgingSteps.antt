-- What is kept of the steps that were judged, so that a step is judged without a walk over any tree.
use Rattle.std.specs.Prelude.{◌≡◌, ◌≢◌, ◌↔◌, ℕ, suc, ◌<◌, ◌≤◌, ◌-◌, ◌^◌, min, List, [], ◌∷◌, length, map, Bool, not, Option, Some, None, MatchOption, if◌then◌else◌}
use Rattle.std.specs.Ordering.{nat_cmp}
use Rattle.std.specs.Cmp.Lexicographic.{slice_cmp}
use Rattle.std.specs.BTreeMap.{get}
use Rattle.tw_base.specs.declared.history.thread.Entry.{Entry}
use Rattle.tw_base.specs.declared.history.thread.Thread.{Thread}
use Rattle.tw_base.specs.kinds.Lists.{Each, In}
use Rattle.tw_base.specs.history.History.{History, Step, entry_at, received, step_at, times}
use Rattle.tw_base.specs.history.Tree.{IsRising, Tree, entries, forest}
use Rattle.tw_history.specs.declared.soundness.summary.Summary.{Summary}
use Rattle.tw_history.specs.declared.soundness.greatest.GreatestSteps.{GreatestSteps}
use Rattle.tw_history.specs.declared.soundness.Judged.{Judged}
use Rattle.tw_history.specs.declared.fault.HistoryFault.{HistoryFault}
use Rattle.tw_history.specs.declared.fault.HistoryFault.TheVariants.{NoMemory, Unsound}
use Rattle.tw_base.specs.declared.kinds.limits.TheConstants.{LAST_STEP}
use Rattle.tw_base.specs.history.Rules.{KeepsRule, Rule, rule_number}
use Rattle.tw_base.specs.history.Rules.Rule.{NodesAreKnown, TreesRise}
use Rattle.tw_history.specs.declared.step.Node.{Node as NodeOfTable}
use Rattle.tw_history.specs.declared.step.Step.{Step as StepOfTable}
use Rattle.tw_history.specs.Tables.{step_of}

-- what an archive is ordered by
-- the step that received the first of the entries, 0 where there is none
abbrev pub first_archived : List Entry → ℕ
first_archived [] = 0
first_archived (e ∷ es) = e.archived

abbrev pub last_or : ℕ → List Entry → ℕ
last_or step [] = step
last_or step (e ∷ es) = last_or e.archived es

-- the step that received the last of the entries, 0 where there is none
abbrev pub last_archived : List Entry → ℕ
last_archived es = last_or 0 es

-- the number of entries, but at most 2^64 - 1, and the steps that received the first and the last
unfoldable pub summary_of : Tree → Summary
summary_of t =
    record { count = min (length (entries t)) (2 ^ 64 - 1); first = first_archived (entries t); last = last_archived (entries t) }

-- each entry is the thread that its step received
abbrev pub AreReceived : History → List Entry → Type 0
AreReceived h es = Each (λ e. entry_at h e.archived ≡ Some e) es

-- the thread's step is above those of all entries of its service
abbrev pub IsLater : Thread → List Entry → Type 0
IsLater t es = Each (λ e. e.thread.from ≡ t.from → e.thread.step < t.step) es

-- the step that is kept for the service
abbrev pub greatest_of : GreatestSteps → (name : List ℕ) → Option ℕ
greatest_of g name = get (slice_cmp nat_cmp) g.steps name

-- of each service the greatest step among the entries; none where the service has no entry
abbrev pub IsGreatest : List Entry → (List ℕ → Option ℕ) → Type 0
IsGreatest es greatest =
    (name : List ℕ) → MatchOption (greatest name) (Each (λ e. e.thread.from ≢ name) es)
    (λ step. ((e : Entry) × In e es × (e.thread.from ≡ name) × (e.thread.step ≡ step)) × Each (λ e. e.thread.from ≡ name → e.thread.step ≤ step) es)

-- the greatest of the times, 0 where there is none: the least number that none of them is above
abbrev pub IsGreatestTime : (times : List ℕ) (greatest : ℕ) → Type 0
IsGreatestTime times greatest = (n : ℕ) → (greatest ≤ n) ↔ Each (λ t. t ≤ n) times

-- what is kept of a history's steps up to i: a summary of each tree by its number, how many threads were received, the
-- greatest step of each service, and the greatest time; each tree so far rises
pub record HasJudged (h : History) (i : ℕ) (judged : Judged) : Type 0 where
  pub summaries : judged.summaries.items ≡ map summary_of (forest h i)
  pub rising : Each (λ t. IsRising (entries t)) (forest h i)
  pub threads : judged.threads ≡ length (received h i)
  pub greatest : IsGreatest (received h i) (greatest_of judged.greatest)
  pub time : IsGreatestTime (times h i) judged.time

-- the number of the first of the rules 3 to 7 that isn't kept, by whether each is: that the archive holds all threads, that a thread
-- is of another service and later, that the events fit, and that the times rise
abbrev pub first_of : (holds_all another later fit rise : Bool) → Option ℕ
first_of holds_all another later fit rise =
    if not holds_all then Some 3 else if not another then Some 4 else if not later then Some 5 else if not fit then Some 6 else if not rise then Some 7 else None

-- the rule of this number is broken, and each lower one is kept
abbrev pub IsFirstRule : (h : History) (i : ℕ) (s : Step) → ℕ → Type 0
IsFirstRule h i s rule =
    (broken : Rule) × (rule ≡ rule_number broken) × (KeepsRule h i s broken → ⊥) × ((other : Rule) → rule_number other < rule → KeepsRule h i s other)

-- the first rule that is broken is told, or that each is kept
abbrev pub TellsRules : (h : History) (i : ℕ) (s : Step) → (told : Option ℕ) → Type 0
TellsRules h i s told = MatchOption told ((rule : Rule) → KeepsRule h i s rule) (IsFirstRule h i s)

-- whichever step it is, once its nodes are planted, and of what was judged before it no more is known than is kept: of a
-- step that keeps the first two rules the first one that it doesn't keep is told
abbrev pub TellsUnkept : History → Judged → StepOfTable → (told : Option ℕ) → Type 0
TellsUnkept h judged step told =
    (i : ℕ) (fresh : List NodeOfTable) → step_at h (suc i) ≡ Some (step_of step fresh) → suc i ≤ LAST_STEP
    → judged.summaries.items ≡ map summary_of (forest h (suc i)) → judged.threads ≡ length (received h i)
    → IsGreatest (received h i) (greatest_of judged.greatest) → IsGreatestTime (times h i) judged.time
    → KeepsRule h i (step_of step fresh) NodesAreKnown → KeepsRule h i (step_of step fresh) TreesRise
    → TellsRules h i (step_of step fresh) told

-- why step i + 1, which is s, isn't sound: the first rule that it breaks
abbrev pub TellsFirst : (h : History) (i : ℕ) (s : Step) → HistoryFault → Type 0
TellsFirst h i s (Unsound step rule) = (step ≡ suc i) × IsFirstRule h i s rule
TellsFirst h i s NoMemory = Unit {0}
TellsFirst h i s _ = ⊥
