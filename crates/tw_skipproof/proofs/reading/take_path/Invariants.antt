use Rattle.std.proofs.Common.{◌-◌, ◌≤◌, length}
use Rattle.tw_base.specs.declared.kinds.limits.TheConstants.{LAST_STEP}
use Rattle.tw_base.proofs.lemmas.format.TakeLaws.{EachTaken}
use Rattle.tw_skipproof.specs.Paths.{greedy_steps}
use Rattle.tw_skipproof.specs.Codecs.{link_bytes, link_codec}
use Rattle.tw_skipproof.proofs.reading.take_path.Given as goal

abbrev pub invariant-loop-step : goal.invariant-loop-step
invariant-loop-step l = record {
  within : l.at ≤ length l.bytes;
  small : l.step ≤ LAST_STEP;
  taken : EachTaken link_bytes link_codec l.bytes l.fn.at (greedy_steps l.from l.to) (greedy_steps l.step l.to) l.links
      l.at;
}

abbrev pub decreases-loop-step : goal.decreases-loop-step
decreases-loop-step l = l.step - l.to
