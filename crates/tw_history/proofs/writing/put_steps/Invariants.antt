use Rattle.std.proofs.Common.{◌≡◌, ◌<◌, ◌^◌, ◌++◌, drop, flat_map, length, sum_by}
use Rattle.tw_base.specs.history.HistoryCodec.{step_codec}
use Rattle.tw_base.specs.kinds.Lists.{Each}
use Rattle.tw_history.specs.Tables.{steps_of_table}
use Rattle.tw_history.proofs.writing.put_steps.Given as goal

abbrev pub invariant-loop-step : goal.invariant-loop-step
invariant-loop-step l = record {
  written : l.into ++ flat_map step_codec.write (steps_of_table (drop l.step-index l.steps) l.rest) ≡ l.initial.into
      ++ flat_map step_codec.write (steps_of_table l.steps l.initial.rest);
  fits : Each step_codec.Fits (steps_of_table (drop l.step-index l.steps) l.rest) → Each step_codec.Fits
      (steps_of_table l.steps l.initial.rest);
  counted : sum_by (λ s. s.fresh) (drop l.step-index l.steps) ≡ length l.rest;
  entries : Each (λ n. n.entry < 2 ^ 64) l.rest;
}
