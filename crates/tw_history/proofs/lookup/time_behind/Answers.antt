use Rattle.std.proofs.Common.{sym, arith}
use Rattle.tw_base.specs.history.Limits.{IsTimeWithinLimits}
use Rattle.tw_history.specs.declared.step.Step.{Step}
use Rattle.tw_history.proofs.TableSteps.{Each-inside, time_at-table}
use Rattle.tw_history.proofs.lookup.time_behind.Goals as goal

pub returns-clause-time : goal.returns-clause-time
returns-clause-time c =
    sym (time_at-table c.args.history.now c.table_of.result.0.now c.table_of.result.1.now c.table_of.ensures.steps
    c.args.index c.index-steps-index.result (omega arith))

pub returns-clause-limit : goal.returns-clause-limit
returns-clause-limit c =
    Each-inside (λ (s : Step). IsTimeWithinLimits s.time) c.table_of.result.0.now c.args.index
    c.index-steps-index.result (omega arith) c.table_of.ensures.table.times
