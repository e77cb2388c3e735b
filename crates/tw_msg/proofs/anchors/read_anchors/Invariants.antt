use Rattle.std.proofs.Common.{length}
use Rattle.tw_msg.specs.AnchorsFile.{lines}
use Rattle.tw_msg.proofs.Reading.{IsRead}
use Rattle.tw_msg.proofs.anchors.read_anchors.Given as goal

abbrev pub invariant-loop-rest : goal.invariant-loop-rest
invariant-loop-rest l = IsRead (lines l.bytes) (lines l.rest) l.anchors

abbrev pub decreases-loop-rest : goal.decreases-loop-rest
decreases-loop-rest l = length l.rest
