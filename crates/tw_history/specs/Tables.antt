-- What a table of steps and nodes stands for.
use Rattle.std.specs.Prelude.{◌≡◌, ◌<◌, ◌≤◌, ◌^◌, List, [], ◌∷◌, length, map, take, drop, sum_by}
use Rattle.tw_base.specs.declared.history.content.Content.{Content}
use Rattle.tw_base.specs.declared.history.content.Content.TheVariants.{Events, Received}
use Rattle.tw_base.specs.declared.kinds.limits.TheConstants.{LAST_STEP, MOST_EVENTS, MOST_EVENT_BYTES}
use Rattle.tw_base.specs.history.Limits.{IsTimeWithinLimits}
use Rattle.tw_base.specs.kinds.Lists.{Each}
use Rattle.tw_base.specs.history.History.{Step as StepMeant, Node as NodeMeant}
use Rattle.tw_history.specs.declared.step.Step.{Step}
use Rattle.tw_history.specs.declared.step.Node.{Node}

abbrev pub node_of : Node → NodeMeant
node_of n = record { left = n.left; entry = n.entry; right = n.right }

-- a step with the nodes that it adds
abbrev pub step_of : Step → List Node → StepMeant
step_of s fresh = record { content = s.content; time = s.time; fresh = map node_of fresh; root = s.root }

-- each step takes the next of the nodes, as many as it counts
abbrev pub steps_of_table : List Step → List Node → List StepMeant
steps_of_table [] nodes = []
steps_of_table (s ∷ ss) nodes = step_of s (take s.fresh nodes) ∷ steps_of_table ss (drop s.fresh nodes)

-- what stands in the longer list behind as many items as the shorter one has
abbrev pub added_behind : {X : Type 0} → (shorter longer : List X) → List X
added_behind shorter longer = drop (length shorter) longer

-- the ranges of a step's content; names, digests and bytes have theirs by their types
abbrev pub IsInRange : Content → Type 0
IsInRange (Events events) = (length events ≤ MOST_EVENTS) × Each (λ event. length event ≤ MOST_EVENT_BYTES) events
IsInRange (Received t) = (0 < t.step) × (t.step ≤ LAST_STEP)

-- the counts of new nodes add up to the number of nodes, and every field is in its range
pub record IsTable (steps : List Step) (nodes : List Node) : Type 0 where
  pub counted : sum_by (λ s. s.fresh) steps ≡ length nodes
  pub few : length steps ≤ LAST_STEP
  pub contents : Each (λ s. IsInRange s.content) steps
  pub times : Each (λ s. IsTimeWithinLimits s.time) steps
  pub entries : Each (λ n. n.entry < 2 ^ 64) nodes
