-- The events of a step, as a history holds them.
use Rattle.std.specs.Prelude.{ℕ, List}
use Rattle.tw_base.specs.declared.history.step_events.Held.{Held}
use Rattle.tw_base.specs.declared.history.step_events.Held.TheVariants.{Listed, Sole}

abbrev pub held_events : Held → List (List ℕ)
held_events (Sole event) = event
held_events (Listed events) = events
