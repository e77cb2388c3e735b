use Rattle.std.proofs.Common.{sym, subst}
use Rattle.std.specs.Prelude.{Option}
use Rattle.tw_outside.specs.Files.{Files, TellsBytes}
use Rattle.tw_hostio.proofs.host_inputs.read_at.Goals as goal

pub returns-clause-came : goal.returns-clause-came
returns-clause-came g c bytes tells =
    c.in_ok-came.ensures.came c.args.name.now c.args.at c.in_ok-stand_at.ensures.stands bytes
    (subst (λ (t : Option Files). TellsBytes t c.args.name.now bytes) (sym c.stand_at.ensures.kept) tells)
