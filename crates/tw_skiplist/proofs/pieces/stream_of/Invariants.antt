use Rattle.std.proofs.Common.{◌≡◌, take}
use Rattle.tw_steppage.specs.StepBytes.{stream}
use Rattle.tw_skiplist.proofs.pieces.stream_of.Given as goal

abbrev pub invariant-loop-event : goal.invariant-loop-event
invariant-loop-event l = l.bytes ≡ stream (take l.event-index l.items)
