use Rattle.std.proofs.Common.{◌≡◌, ◌-◌, ◌<◌, ◌≤◌, ◌^◌, length, sum_by}
use Rattle.tw_base.specs.history.HistoryCodec.{step_codec}
use Rattle.tw_base.specs.history.Limits.{IsTimeWithinLimits}
use Rattle.tw_base.specs.kinds.Lists.{Each}
use Rattle.tw_base.proofs.lemmas.format.TakeLaws.{ManyTaken}
use Rattle.tw_history.specs.Tables.{IsInRange, steps_of_table}
use Rattle.tw_history.proofs.reading_steps.take_table.Given as goal

abbrev pub invariant-loop-i : goal.invariant-loop-i
invariant-loop-i l = record {
  within : l.at ≤ length l.bytes;
  taken : ManyTaken step_codec l.bytes l.fn.at l.count (l.count - l._i) (steps_of_table l.steps l.nodes) l.at;
  counted : sum_by (λ s. s.fresh) l.steps ≡ length l.nodes;
  contents : Each (λ s. IsInRange s.content) l.steps;
  times : Each (λ s. IsTimeWithinLimits s.time) l.steps;
  entries : Each (λ n. n.entry < 2 ^ 64) l.nodes;
}
