use Rattle.std.proofs.Common.{◌≡◌, drop}
use Rattle.tw_adopt.specs.Adopting.{furthest}
use Rattle.tw_adopt.proofs.weighing.furthest.Given as goal

abbrev pub invariant-loop-one : goal.invariant-loop-one
invariant-loop-one l = furthest l.best (drop l.one-index l.rest) ≡ furthest l.first l.rest
