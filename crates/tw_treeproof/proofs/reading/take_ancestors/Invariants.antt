use Rattle.std.proofs.Common.{◌-◌, ◌≤◌, length}
use Rattle.tw_base.proofs.lemmas.format.TakeLaws.{ManyTaken}
use Rattle.tw_treeproof.specs.Codecs.{ancestor_codec}
use Rattle.tw_treeproof.proofs.reading.take_ancestors.Given as goal

abbrev pub invariant-loop-i : goal.invariant-loop-i
invariant-loop-i l = record {
  within : l.at ≤ length l.bytes;
  taken : ManyTaken ancestor_codec l.bytes l.fn.at l.count (l.count - l._i) l.ancestors l.at;
}
