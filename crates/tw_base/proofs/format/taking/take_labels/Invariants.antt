use Rattle.std.proofs.Common.{◌≡◌, ◌+◌, ◌-◌, ◌*◌}
use Rattle.tw_base.specs.format.Codecs.{digest_codec}
use Rattle.tw_base.proofs.lemmas.format.TakeLaws.{ManyTaken}
use Rattle.tw_base.proofs.format.taking.take_labels.Given as goal

abbrev pub invariant-loop-i : goal.invariant-loop-i
invariant-loop-i l = record {
  place : l.at ≡ l.fn.at + 32 * l._i;
  taken : ManyTaken digest_codec l.bytes l.fn.at l.count (l.count - l._i) l.labels l.at;
}
