-- The seven rules that each step of a sound history keeps.
use Rattle.std.specs.Prelude.{◌≡◌, ◌≢◌, ℕ, suc, ◌<◌, ◌≤◌, List, [], ◌∷◌, length, Some, IsSome, IfSome}
use Rattle.tw_base.specs.kinds.Lists.{Each}
use Rattle.tw_base.specs.history.History.{History, Step, Node, events_of, thread_of, entry_to, received, times}
use Rattle.tw_base.specs.history.Limits.{FitTogether}
use Rattle.tw_base.specs.history.Tree.{IsRising, entries, forest, new_trees, tree}

pub data Rule : Type 0 where
  NodesAreKnown : Rule
  TreesRise : Rule
  HoldsAllThreads : Rule
  IsOfAnother : Rule
  StepsRise : Rule
  EventsFit : Rule
  TimesDontFall : Rule

abbrev pub rule_number : Rule → ℕ
rule_number NodesAreKnown = 1
rule_number TreesRise = 2
rule_number HoldsAllThreads = 3
rule_number IsOfAnother = 4
rule_number StepsRise = 5
rule_number EventsFit = 6
rule_number TimesDontFall = 7

-- new nodes, of which the first has this number, name nodes before them and steps up to this one that received a thread
abbrev pub NodesFit : History → (step number : ℕ) → List Node → Type 0
NodesFit h step number [] = Unit {0}
NodesFit h step number (n ∷ ns) =
    ((n.left < number) × (n.right < number) × IsSome (entry_to h step n.entry)) × NodesFit h step (suc number) ns

-- step i + 1 of the history, which is s, keeps the rule
abbrev pub KeepsRule : (h : History) (i : ℕ) (s : Step) → Rule → Type 0
-- nodes and root are those of nodes so far, and entries those of steps up to this one that received a thread
KeepsRule h i s NodesAreKnown = NodesFit h (suc i) (length (forest h i)) s.fresh × (s.root < length (forest h (suc i)))
-- the keys of each new node's tree rise strictly
KeepsRule h i s TreesRise = Each (λ t. IsRising (entries t)) (new_trees h i)
-- the archive has as many entries as threads were received
KeepsRule h i s HoldsAllThreads = length (entries (tree h (suc i))) ≡ length (received h (suc i))
-- a received thread is of another service
KeepsRule h i s IsOfAnother = IfSome (thread_of (Some s)) (λ t. t.from ≢ h.name)
-- its step is above every earlier one of that service
KeepsRule h i s StepsRise = IfSome (thread_of (Some s)) (λ t. Each (λ e. e.thread.from ≡ t.from → e.thread.step < t.step) (received h i))
-- the events have together at most 65,536 bytes
KeepsRule h i s EventsFit = FitTogether (events_of (Some s))
-- a time isn't below that of an earlier step
KeepsRule h i s TimesDontFall = IfSome s.time (λ time. Each (λ earlier. earlier ≤ time) (times h i))
