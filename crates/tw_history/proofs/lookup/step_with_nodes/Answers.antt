use Rattle.std.proofs.Common.{◌≡◌, ◌+◌, ◌-◌, take, drop, ap, sym, ◌∙◌, arith}
use Rattle.std.specs.Prelude.{Some}
use Rattle.tw_history.specs.declared.step.Step.{Step}
use Rattle.tw_history.specs.Tables.{step_of}
use Rattle.tw_history.proofs.TableSteps.{nodes_of_first, steps_of_table-at}
use Rattle.tw_history.proofs.lookup.step_with_nodes.Goals as goal

pub returns-clause-step : goal.returns-clause-step
returns-clause-step c =
    let step : Step = c.index-steps-index.result in
    let count : step.fresh ≡ c.args.before + step.fresh - c.args.before = omega arith in
    steps_of_table-at c.args.steps.now c.args.nodes.now c.args.index step c.requires.inside
    ∙ ap (λ (s : Step). Some
    (step_of s (take s.fresh (drop (nodes_of_first c.args.steps.now c.args.index) c.args.nodes.now))))
    (sym c.index-steps-index.is)
    ∙ (λ k. Some (step_of step (take (count k) (drop (sym c.requires.before k) c.args.nodes.now))))
