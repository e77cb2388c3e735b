use Rattle.std.proofs.Common.{arith}
use Rattle.std.specs.Prelude.{nat_lt}
use Rattle.std.proofs.lemmas.Bool.{le-ltb, lt-ltb}
use Rattle.tw_generate.proofs.Results.{first-case, if-ok, second-case}
use Rattle.tw_generate.proofs.claiming.claim.Goals as goal

pub returns : goal.returns
returns g c = λ t plays beta gamma.
    if-ok c.precedence.result
    (λ bytes made. (made.0, second-case (nat_lt c.args.rounds 50) _ _ (le-ltb c.args.rounds 50 (omega arith)) made.1))
    (c.precedence.ensures t plays beta gamma)

pub returns-then-rounds-lt-ROUNDS_BETWEEN : goal.returns-then-rounds-lt-ROUNDS_BETWEEN
returns-then-rounds-lt-ROUNDS_BETWEEN g c = λ t plays beta gamma.
    if-ok c.existence.result
    (λ bytes made. (made.0, first-case (nat_lt c.args.rounds 50) _ _ (lt-ltb c.args.rounds 50 (omega arith)) made.1))
    (c.existence.ensures t plays)

pub existence-requires : goal.existence-requires
existence-requires g c = let can = c.requires in (can.0, c.args.rounds, can.1, can.2)

pub precedence-requires : goal.precedence-requires
precedence-requires g c = let can = c.requires in (can.0, c.args.rounds, can.1, can.2, omega arith, can.3, can.4)
