use Rattle.std.proofs.Common.{take}
use Rattle.tw_atlas.specs.Marking.{AreMarked}
use Rattle.tw_atlas.proofs.rounds.mark_from_all.Given as goal

abbrev pub invariant-loop-number : goal.invariant-loop-number
invariant-loop-number l = AreMarked (take l.number l.stops) l.hops l.marks
