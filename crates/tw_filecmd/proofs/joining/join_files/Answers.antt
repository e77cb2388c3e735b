use Rattle.std.proofs.Common.{subst}
use Rattle.tw_join.specs.Joining.{Joins}
use Rattle.tw_outside.specs.Asked.{asked}
use Rattle.tw_filecmd.proofs.PartFiles.{tells_joined}
use Rattle.tw_filecmd.proofs.joining.join_files.Goals as goal

pub returns : goal.returns
returns g c =
    tells_joined (asked (g.I.Inputs.told c.args.inputs.now) (g.I.Inputs.faults c.args.inputs.now)
    (g.I.Inputs.faults c.read_parts.new.inputs))
    c.args.files.now c.in_ok-parts.parts c.join-joined.result c.told.result c.in_ok-parts.ensures
    (subst (λ parts. Joins parts c.join-joined.result) c.as_slice.ensures c.join-joined.ensures) c.told.ensures
