use Rattle.tw_base.specs.format.Codecs.{HasBytes}
use Rattle.tw_base.proofs.lemmas.format.PutLaws.{ManyPut}
use Rattle.tw_base.proofs.format.writers.put_labels.Given as goal

abbrev pub invariant-loop-label : goal.invariant-loop-label
invariant-loop-label l = ManyPut (λ label. label) (HasBytes 32) l.initial.into l.into l.label-items l.label-index
