use Rattle.std.proofs.Common.{◌≡◌, drop}
use Rattle.tw_base.specs.history.Ways.{is_left, nearest_left}
use Rattle.tw_treeproof.proofs.checking.nearest_left.Given as goal

abbrev pub invariant-loop-ancestor : goal.invariant-loop-ancestor
invariant-loop-ancestor l = nearest_left (is_left l.ask) (drop l.ancestor-index l.ancestors) ≡ nearest_left
    (is_left l.ask) l.ancestors
