use Rattle.std.proofs.Common.{◌≡◌, ◌+◌, List, ap, sym, ◌∙◌, arith}
use Rattle.std.specs.Prelude.{slice_get}
use Rattle.tw_base.specs.history.History.{Step}
use Rattle.tw_history.proofs.TableSteps.{length-forest, nodes_of_first}
use Rattle.tw_history.proofs.lookup.step_behind.Goals as goal

pub step_with_nodes-requires-clause-before : goal.step_with_nodes-requires-clause-before
step_with_nodes-requires-clause-before c =
    let table = c.table_of.ensures in
    let size : c.args.before + 1 ≡ nodes_of_first c.table_of.result.0.now c.args.index + 1 =
    sym c.requires.before ∙ length-forest c.args.history.now c.table_of.result.0.now c.table_of.result.1.now table.steps
    table.table.counted c.args.index (omega arith) in
    omega (arith, size)

pub returns-clause-step : goal.returns-clause-step
returns-clause-step c = ap (λ (ss : List Step). slice_get ss c.args.index) c.table_of.ensures.steps
    ∙ c.step_with_nodes.ensures.step
