use Rattle.std.proofs.Common.{◌≡◌, drop}
use Rattle.tw_audit.specs.Stops.{found_by_stops}
use Rattle.tw_audit.proofs.passing.found_in.Given as goal

abbrev pub invariant-loop-one : goal.invariant-loop-one
invariant-loop-one l = found_by_stops (drop l.one-index l.passed) l.thread ≡ found_by_stops l.passed l.thread
