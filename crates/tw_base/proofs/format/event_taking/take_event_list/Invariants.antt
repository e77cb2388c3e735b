use Rattle.std.proofs.Common.{◌-◌, ◌≤◌, length}
use Rattle.tw_base.specs.format.Codecs.{sized_codec}
use Rattle.tw_base.proofs.lemmas.format.TakeLaws.{ManyTaken}
use Rattle.tw_base.proofs.format.event_taking.take_event_list.Given as goal

abbrev pub invariant-loop-i : goal.invariant-loop-i
invariant-loop-i l = record {
  within : l.at ≤ length l.bytes;
  taken : ManyTaken (sized_codec 4 0 l.most) l.bytes l.fn.at l.count (l.count - l._i) l.events l.at;
}
