use Rattle.std.proofs.Common.{arith}
use Rattle.tw_history.specs.declared.step.Step.{Step}
use Rattle.tw_history.specs.Tables.{IsInRange}
use Rattle.tw_history.proofs.TableSteps.{Each-inside, events_at-table, thread_at-table}
use Rattle.tw_history.proofs.lookup.content_behind.Goals as goal

pub returns-clause-events : goal.returns-clause-events
returns-clause-events c =
    events_at-table c.args.history.now c.table_of.result.0.now c.table_of.result.1.now c.table_of.ensures.steps
    c.args.index c.index-steps-index.result (omega arith)

pub returns-clause-thread : goal.returns-clause-thread
returns-clause-thread c =
    thread_at-table c.args.history.now c.table_of.result.0.now c.table_of.result.1.now c.table_of.ensures.steps
    c.args.index c.index-steps-index.result (omega arith)

pub returns-clause-range : goal.returns-clause-range
returns-clause-range c =
    Each-inside (λ (s : Step). IsInRange s.content) c.table_of.result.0.now c.args.index c.index-steps-index.result
    (omega arith) c.table_of.ensures.table.contents
