use Rattle.std.proofs.Common.{take}
use Rattle.tw_atlas.specs.BestSoFar.{AreBest, kept_for}
use Rattle.tw_atlas.proofs.arriving.best_arrivals.Given as goal

abbrev pub invariant-loop-number : goal.invariant-loop-number
invariant-loop-number l = AreBest (take l.number l.stops) (kept_for l.best)
