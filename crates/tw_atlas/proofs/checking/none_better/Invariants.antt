use Rattle.std.proofs.Common.{◌≡◌, suc, drop}
use Rattle.std.specs.Prelude.{map}
use Rattle.tw_atlas.specs.declared.atlas.Leg.{Leg}
use Rattle.tw_atlas.specs.Atlases.{stops}
use Rattle.tw_atlas.specs.Checks.{none_better}
use Rattle.tw_atlas.specs.Reaching.{target}
use Rattle.tw_atlas.proofs.checking.none_better.Given as goal

abbrev pub invariant-loop-k : goal.invariant-loop-k
invariant-loop-k l =
    none_better (suc l.k) (map (λ (leg : Leg). target leg.hop) (drop l.k l.legs)) l.arrival ≡ none_better 0
    (stops l.start l.legs) l.arrival
