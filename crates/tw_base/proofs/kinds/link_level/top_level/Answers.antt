use Rattle.std.proofs.Common.{◌<◌, ◌%◌, ◌^◌, arith, subst, ◌≡◌}
use Rattle.tw_base.specs.kinds.Levels.{top_level}
use Rattle.tw_base.proofs.lemmas.kinds.Levels.{top_level-below, top_level-divides, top_level-is}
use Rattle.tw_base.proofs.kinds.link_level.top_level.Goals as goal

pub returns-clause-small : goal.returns-clause-small
returns-clause-small c =
    let small : top_level c.args.step < 40 = top_level-below c.args.step (omega (arith, c.requires)) in
    omega (arith, small, top_level-is c.args.step (omega arith))

pub returns-clause-divides : goal.returns-clause-divides
returns-clause-divides c = λ some. subst (λ k. c.args.step % 2 ^ k ≡ 0) (top_level-is c.args.step some)
    (top_level-divides c.args.step some (omega arith))
