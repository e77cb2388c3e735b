-- What a proof tells of one event among the events of its step.
use Rattle.std.specs.Prelude.{ℕ, List, [], slice_index_or}
use Rattle.tw_base.specs.declared.events.event_part.EventPart.{EventPart}
use Rattle.tw_base.specs.events.EventTree.{audit_path}

-- the event at the index, of which there are more, and its audit path among all events
abbrev pub event_part : (dig : List ℕ → List ℕ) → (events : List (List ℕ)) → (index : ℕ) → EventPart
event_part dig events index = record { index = index; event = slice_index_or events index []; path = audit_path dig events index }
