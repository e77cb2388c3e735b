use Rattle.std.proofs.Common.{◌≡◌, ◌-◌, ◌≤◌, length}
use Rattle.tw_base.proofs.lemmas.format.TakeLaws.{ManyTaken}
use Rattle.tw_rbnode.proofs.reading.take_many.Given as goal

abbrev pub invariant-loop-i : goal.invariant-loop-i
invariant-loop-i g l = record {
  within : l.at ≤ length l.bytes;
  room : length l.all.items ≡ l._i;
  taken : ManyTaken g.T.Taken.codec l.bytes l.fn.at l.count (l.count - l._i) l.all.items l.at;
}
