use Rattle.std.proofs.Common.{◌≡◌, drop}
use Rattle.tw_history.specs.Stops.{stopped_at}
use Rattle.tw_history.proofs.stops.stop_at.Given as goal

abbrev pub invariant-loop-stop : goal.invariant-loop-stop
invariant-loop-stop l = stopped_at (drop l.stop-index l.stops) l.step ≡ stopped_at l.stops l.step
