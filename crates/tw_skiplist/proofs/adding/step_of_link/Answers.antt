use Rattle.std.proofs.Common.{◌≤◌, ◌-◌, ℕ, sym, subst, arith}
use Rattle.tw_base.specs.kinds.Levels.{top_level}
use Rattle.tw_base.proofs.lemmas.kinds.Levels.{top_level-below}
use Rattle.tw_skiplist.proofs.Kept.{power-le}
use Rattle.tw_skiplist.proofs.KeptAppended.{level_fits}
use Rattle.tw_skiplist.proofs.adding.step_of_link.Goals as goal

pub power_of_two-requires : goal.power_of_two-requires
power_of_two-requires c = let below = top_level-below c.args.step c.requires.small in
    omega (arith, below, c.requires.lower)

pub overflow_sub-result : goal.overflow_sub-result
overflow_sub-result c = let le = power-le c.args.step c.args.level c.requires.some c.requires.small
    (omega (arith, c.requires.lower)) in omega (arith, le, c.power_of_two.ensures)

pub returns-clause-there : goal.returns-clause-there
returns-clause-there c =
    subst (λ (p : ℕ). c.args.level ≤ top_level (c.args.step - p)) (sym c.power_of_two.ensures)
    (level_fits c.args.step c.args.level c.requires.some c.requires.small c.requires.lower)
