use Rattle.std.proofs.Common.{◌≡◌, drop}
use Rattle.tw_base.specs.history.Ways.{is_left, nearest_right}
use Rattle.tw_treeproof.proofs.checking.nearest_right.Given as goal

abbrev pub invariant-loop-ancestor : goal.invariant-loop-ancestor
invariant-loop-ancestor l = nearest_right (is_left l.ask) (drop l.ancestor-index l.ancestors) ≡ nearest_right
    (is_left l.ask) l.ancestors
