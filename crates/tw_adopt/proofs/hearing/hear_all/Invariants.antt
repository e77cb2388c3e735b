use Rattle.std.proofs.Common.{take}
use Rattle.std.specs.Prelude.{None}
use Rattle.tw_adopt.specs.Hearing.{AreHeard}
use Rattle.tw_adopt.proofs.hearing.hear_all.Given as goal

abbrev pub invariant-loop-index : goal.invariant-loop-index
invariant-loop-index g l = AreHeard g.H.Hasher.dig l.anchors l.history 1 (take l.index l.proofs) l.shown.items None
