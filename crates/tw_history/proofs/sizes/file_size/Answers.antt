use Rattle.std.proofs.Common.{arith, length, ap, sym, ◌∙◌, ◌+◌, refl, sum_by}
use Rattle.tw_history.specs.HistoryOf.{history_of_table}
use Rattle.tw_history.specs.WritingSteps.{step_size}
use Rattle.tw_history.proofs.ByteCounts.{history-size}
use Rattle.tw_history.proofs.sizes.file_size.Goals as goal

pub returns : goal.returns
returns c =
    let name = ap length c.as_bytes-name.ensures.value in
    rw (← c.history.view_is)
    (ap (λ n. 28 + n) (c.steps_size.ensures.size ∙ ap (sum_by step_size) c.as_slice.ensures)
    ∙ sym (history-size (history_of_table c.history.inside) c.history.inside.steps c.history.inside.nodes refl
    c.history.invariant.counted (omega (arith, name, c.as_bytes-name.ensures.size))))
