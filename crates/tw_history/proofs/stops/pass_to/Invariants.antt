use Rattle.std.proofs.Common.{◌-◌, ◌≤◌}
use Rattle.tw_history.specs.PassSteps.{HandsOn, HasPassed}
use Rattle.tw_history.specs.Stops.{HasStops}
use Rattle.tw_history.proofs.stops.pass_to.Given as goal

abbrev pub invariant-loop-at : goal.invariant-loop-at
invariant-loop-at g l = record {
  inside : l.at ≤ l.last;
  passed : HasPassed g.T.Transcript.dig l.history l.at l.digests;
  stops : HasStops g.T.Transcript.dig l.history l.asked l.stops.items l.at;
  took : HandsOn g.T.Transcript.dig l.history g.T.Transcript.took l.initial.texts l.texts 0 l.at;
}

abbrev pub decreases-loop-at : goal.decreases-loop-at
decreases-loop-at g l = l.last - l.at
