use Rattle.std.proofs.Common.{length, take}
use Rattle.tw_atlas.specs.Marking.{AreMarked}
use Rattle.tw_atlas.proofs.RoundSteps.{SoFar}
use Rattle.tw_atlas.proofs.rounds.legs_in_rounds.Given as goal

abbrev pub invariant-loop-i : goal.invariant-loop-i
invariant-loop-i l = record {
  so_far : SoFar (length l.hops) l._i l.fn.start l.hops l.listed.legs l.listed.stops.items l.first;
  marked : AreMarked (take l.first l.listed.stops.items) l.hops l.marks.items;
}
