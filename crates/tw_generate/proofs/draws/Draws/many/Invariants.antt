use Rattle.std.proofs.Common.{◌≡◌}
use Rattle.tw_generate.specs.Draws.{after_draws, drawn_events}
use Rattle.tw_generate.proofs.draws.Draws.many.Given as goal

-- the events drawn so far, and the state after them
abbrev pub invariant-loop-done : goal.invariant-loop-done
invariant-loop-done l = (l.events ≡ drawn_events l.fn.self.state l.done)
    × (l.self.state ≡ after_draws l.fn.self.state l.done)
