use Rattle.std.proofs.Common.{◌≡◌}
use Rattle.tw_generate.specs.Playing.{LeadsByActs}
use Rattle.tw_generate.specs.Schedules.{after_rounds, rounds_of}
use Rattle.tw_generate.proofs.services.Services.rounds.Given as goal

-- the rounds so far led here, and this is the state after them
abbrev pub invariant-loop-done : goal.invariant-loop-done
invariant-loop-done g l = LeadsByActs g.H.Hasher.dig g.D.Disk.view (rounds_of l.number l.done) l.fn.self l.self
    × (l.draws.state ≡ after_rounds l.number l.done)
