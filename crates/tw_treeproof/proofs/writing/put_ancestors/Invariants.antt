use Rattle.tw_base.proofs.lemmas.format.PutLaws.{ManyPut}
use Rattle.tw_base.specs.history.Limits.{IsAncestorInRange}
use Rattle.tw_treeproof.specs.Codecs.{ancestor_codec}
use Rattle.tw_treeproof.proofs.writing.put_ancestors.Given as goal

abbrev pub invariant-loop-ancestor : goal.invariant-loop-ancestor
invariant-loop-ancestor l = ManyPut ancestor_codec.write (λ a. IsAncestorInRange a → ancestor_codec.Fits a)
    l.initial.into l.into l.ancestors l.ancestor-index
