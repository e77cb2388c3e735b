use Rattle.std.proofs.Common.{arith, sym, ◌∙◌}
use Rattle.tw_base.proofs.lemmas.events.EventTrees.{largest_power_below-at}
use Rattle.tw_base.proofs.events.halves.left_count.Goals as goal

pub returns-clause-value : goal.returns-clause-value
returns-clause-value c = c.power_of_two.ensures ∙ sym (largest_power_below-at c.ilog2.result c.args.count (omega arith)
    (omega arith))
