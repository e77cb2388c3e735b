use Rattle.std.proofs.Common.{◌<◌, arith}
use Rattle.tw_base.specs.kinds.Levels.{top_level}
use Rattle.tw_base.proofs.lemmas.kinds.Levels.{top_level-below}
use Rattle.tw_skipproof.proofs.hop.level_of_hop.Goals as goal

pub returns-else-power_of_two-from-clause-small : goal.returns-else-power_of_two-from-clause-small
returns-else-power_of_two-from-clause-small c =
    let small : top_level c.args.from < 40 = top_level-below c.args.from (omega (arith, c.requires.step)) in
    omega (arith, c.loop-level.invariant.1)
