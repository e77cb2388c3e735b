use Rattle.std.proofs.Common.{◌≡◌, ◌-◌, ◌≤◌, length, take}
use Rattle.tw_pieces.specs.Resuming.{StandsBehind}
use Rattle.tw_pieces.proofs.segments.settle.Given as goal

abbrev pub invariant-loop-held : goal.invariant-loop-held
invariant-loop-held g l = record {
  same : l.held ≡ l.fn.held;
  within : l.at ≤ length l.held;
  taken : StandsBehind (g.S.Segments.rest l.fn.state) (take l.at l.held) (g.S.Segments.rest l.state);
}

abbrev pub decreases-loop-held : goal.decreases-loop-held
decreases-loop-held g l = length l.held - l.at
