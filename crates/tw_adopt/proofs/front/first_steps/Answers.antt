use Rattle.std.proofs.Common.{◌≡◌, List, length, take, ap, sym, ◌∙◌, subst, arith, sum_by}
use Rattle.std.specs.Prelude.{IfOk}
use Rattle.std.proofs.lemmas.List.{length-take-le}
use Rattle.tw_base.specs.history.History.{History}
use Rattle.tw_history.specs.declared.step.Step.{Step}
use Rattle.tw_adopt.specs.HistoryFronts.{first_steps}
use Rattle.tw_history.specs.Tables.{steps_of_table}
use Rattle.tw_adopt.proofs.TableFronts.{few-nodes, first-steps, first-table}
use Rattle.tw_adopt.proofs.front.first_steps.Goals as goal

pub count_nodes-requires : goal.count_nodes-requires
count_nodes-requires c =
    let few = c.table_of.ensures.table.few in
    let inside = length-take-le c.args.count c.table_of.result.0.now
    (omega (arith, c.requires, c.table_of.ensures.count)) in
    omega (arith, few, inside, ap length c.split_at.ensures.front, c.requires, c.table_of.ensures.count)

pub split_at-requires-2 : goal.split_at-requires-2
split_at-requires-2 c =
    let few = few-nodes c.table_of.result.0.now c.table_of.result.1.now c.args.count c.table_of.ensures.table in
    let same = ap (λ (ss : List Step). sum_by (λ (s : Step). s.fresh) ss) c.split_at.ensures.front in
    omega (arith, few, same, c.count_nodes.ensures)

pub copy_table-requires : goal.copy_table-requires
copy_table-requires c =
    first-table c.table_of.result.0.now c.split_at.result.0.now c.table_of.result.1.now c.split_at-2.result.0.now
    c.args.count c.count_nodes.result
    c.split_at.ensures.front c.count_nodes.ensures c.split_at-2.ensures.front
    (omega (arith, c.requires, c.table_of.ensures.count)) c.table_of.ensures.table

pub returns : goal.returns
returns c =
    let cut : steps_of_table c.split_at.result.0.now c.split_at-2.result.0.now ≡ take c.args.count
    c.args.history.now.steps =
    first-steps c.table_of.result.0.now c.split_at.result.0.now c.table_of.result.1.now c.split_at-2.result.0.now
    c.args.count c.count_nodes.result
    c.split_at.ensures.front c.count_nodes.ensures c.split_at-2.ensures.front
    ∙ ap (take c.args.count) (sym c.table_of.ensures.steps) in
    let same : record {
      name = c.service.result.now;
      steps = steps_of_table c.split_at.result.0.now c.split_at-2.result.0.now;
    } ≡ first_steps c.args.history.now c.args.count =
    λ i. record { name = c.service.ensures i; steps = cut i } in
    subst (λ (h : History). IfOk c.copy_table.result (λ copy. copy ≡ h)) same c.copy_table.ensures
