use Rattle.std.proofs.Common.{sym, subst}
use Rattle.std.specs.Prelude.{Option}
use Rattle.tw_outside.specs.Files.{Files, TellsBytes}
use Rattle.tw_hostio.proofs.host_inputs.read_on.Goals as goal

pub returns-in-Ok-clause-came : goal.returns-in-Ok-clause-came
returns-in-Ok-clause-came g c name place is bytes tells =
    c.in-Ok.ensures.came name place (c.loop.invariant.still name place is) bytes
    (subst (λ (t : Option Files). TellsBytes t name bytes) (sym c.loop.invariant.kept) tells)
