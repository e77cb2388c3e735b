use Rattle.std.proofs.Common.{◌≡◌, ◌-◌, ◌≤◌, length}
use Rattle.tw_base.proofs.lemmas.format.TakeLaws.{ManyTaken}
use Rattle.tw_steppage.specs.StepBytes.{ref_codec}
use Rattle.tw_steppage.proofs.page.take_links.Given as goal

abbrev pub invariant-loop-i : goal.invariant-loop-i
invariant-loop-i l = record {
  within : l.at ≤ length l.bytes;
  room : length l.links.items ≡ l._i;
  taken : ManyTaken ref_codec l.bytes l.fn.at l.count (l.count - l._i) l.links.items l.at;
}
