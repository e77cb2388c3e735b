use Rattle.tw_treeproof.proofs.Climbs.{Freeing}
use Rattle.tw_treeproof.proofs.checking.is_free.Given as goal

abbrev pub invariant-loop-ancestor : goal.invariant-loop-ancestor
invariant-loop-ancestor l = Freeing l.ask l.ancestors l.ancestor-index
