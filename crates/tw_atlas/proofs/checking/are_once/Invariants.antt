use Rattle.std.proofs.Common.{◌≡◌, drop}
use Rattle.tw_atlas.specs.Checks.{are_once}
use Rattle.tw_atlas.proofs.checking.are_once.Given as goal

abbrev pub invariant-loop-i : goal.invariant-loop-i
invariant-loop-i l = are_once (drop l.i l.legs) ≡ are_once l.legs
