-- Steps of events.
use Rattle.std.specs.Prelude.{ℕ, List, [], length, Option}
use Rattle.tw_base.specs.declared.history.content.Content.TheVariants.{Events}
use Rattle.tw_base.specs.history.History.{History, Step, plus, root_of, step_at}

-- a step of these events, with this time or none: it adds no node, and has this root
abbrev pub event_step : (root : ℕ) → List (List ℕ) → (time : Option ℕ) → Step
event_step root events time = record { content = Events events; time = time; fresh = []; root = root }

-- the history with one more step of these events, with this time or none: no new node, and the root as before
abbrev pub with_events_at : History → List (List ℕ) → (time : Option ℕ) → History
with_events_at h events time = plus h (event_step (root_of (step_at h (length h.steps))) events time)
