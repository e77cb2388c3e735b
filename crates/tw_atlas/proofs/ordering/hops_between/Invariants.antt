use Rattle.std.proofs.Common.{◌≡◌, ◌++◌}
use Rattle.std.specs.Prelude.{map}
use Rattle.std.specs.BTreeMap.{keys}
use Rattle.tw_base.specs.declared.history.thread.Key.{Key}
use Rattle.tw_atlas.specs.HopEnds.{hop_between}
use Rattle.tw_atlas.proofs.ordering.hops_between.Given as goal

abbrev pub invariant-loop-ends : goal.invariant-loop-ends
invariant-loop-ends l =
    l.hops.items ++ map (λ (ends : Key × Key). hop_between ends.0 ends.1) l.ends-iterator
    ≡ map (λ (ends : Key × Key). hop_between ends.0 ends.1) (keys l.fn.all)
