use Rattle.std.proofs.Common.{◌≡◌, List, length, ap, sym, ◌∙◌, subst}
use Rattle.tw_base.specs.history.History.{History, Step}
use Rattle.tw_history.specs.Tables.{IsTable, steps_of_table}
use Rattle.tw_history.proofs.TableLaws.{length-steps_of_table}
use Rattle.tw_history.proofs.lookup.table_of.Goals as goal

pub returns : goal.returns
returns c =
    let meant : c.args.history.now.steps ≡ steps_of_table c.history.inside.steps c.history.inside.nodes =
    ap (λ (h : History). h.steps) (sym c.history.view_is) in
    let told : c.args.history.now.steps ≡ steps_of_table c.as_slice.result.now c.as_slice-2.result.now =
    meant ∙ (λ k. steps_of_table (sym c.as_slice.ensures k) (sym c.as_slice-2.ensures k)) in
    record {
      steps = told;
      count = ap (λ (ss : List Step). length ss) told ∙ length-steps_of_table c.as_slice.result.now
          c.as_slice-2.result.now;
      table = subst (λ ns. IsTable c.as_slice.result.now ns) (sym c.as_slice-2.ensures)
          (subst (λ ss. IsTable ss c.history.inside.nodes) (sym c.as_slice.ensures) c.history.invariant);
    }
