use Rattle.std.proofs.Common.{◌≡◌, drop}
use Rattle.tw_atlas.specs.Checks.{names_rise}
use Rattle.tw_atlas.proofs.checking.names_rise.Given as goal

abbrev pub invariant-loop-i : goal.invariant-loop-i
invariant-loop-i l = names_rise (drop l.i l.arrivals) ≡ names_rise l.arrivals
