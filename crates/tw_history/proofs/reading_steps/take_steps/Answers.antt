use Rattle.std.proofs.lemmas.Result.{err_from_is_err_and}
use Rattle.tw_base.specs.declared.kinds.limits.TheConstants.{LAST_STEP}
use Rattle.tw_base.specs.history.HistoryCodec.{step_codec}
use Rattle.tw_base.proofs.lemmas.format.TakeLaws.{takes-counted, takes-no_count}
use Rattle.tw_history.specs.declared.reading_steps.Table.{Table}
use Rattle.tw_history.specs.Tables.{steps_of_table}
use Rattle.tw_history.proofs.reading_steps.take_steps.Goals as goal

pub returns-in_err-count-clause-takes : goal.returns-in_err-count-clause-takes
returns-in_err-count-clause-takes c =
    let p = err_from_is_err_and c.from_residual.result c.from_residual.ensures.1 in
    rw (p.1, p.2) (takes-no_count step_codec (λ (t : Table). steps_of_table t.steps t.nodes) 8 0 LAST_STEP
    c.args.bytes.now c.args.at.now c.take_number.new.at c.take_number.new.at _ c.in_err-count.ensures.takes)

pub returns-clause-takes : goal.returns-clause-takes
returns-clause-takes c =
    let number = c.in_ok-count.ensures.takes in
    takes-counted step_codec (λ (t : Table). steps_of_table t.steps t.nodes) 8 0 LAST_STEP c.args.bytes.now
    c.args.at.now c.take_number.new.at c.take_table.new.at c.in_ok-count.count c.take_table.result number.0 number.1
    c.take_table.ensures.takes
