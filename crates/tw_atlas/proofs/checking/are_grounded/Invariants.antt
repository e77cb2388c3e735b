use Rattle.std.proofs.Common.{◌≡◌, drop}
use Rattle.tw_atlas.specs.Checks.{are_grounded}
use Rattle.tw_atlas.proofs.checking.are_grounded.Given as goal

abbrev pub invariant-loop-k : goal.invariant-loop-k
invariant-loop-k l = are_grounded l.given l.start l.legs l.k (drop l.k l.legs) ≡ are_grounded l.given l.start l.legs 0
    l.legs
