-- The labels of the leaves of events, of which the root of the events is made.
use Rattle.std.specs.Prelude.{ℕ, List, map}
use Rattle.tw_base.specs.events.EventTree.{event_leaf_texts}

-- the labels of the leaves, by index
abbrev pub leaf_labels : (dig : List ℕ → List ℕ) → List (List ℕ) → List (List ℕ)
leaf_labels dig events = map dig (event_leaf_texts events)
