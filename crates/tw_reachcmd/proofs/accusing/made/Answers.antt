use Rattle.tw_reachcmd.proofs.PartFiles.{written_parts}
use Rattle.tw_reachcmd.proofs.accusing.made.Goals as goal

pub returns-in-Ok : goal.returns-in-Ok
returns-in-Ok c =
    written_parts c.args.one c.args.other c.args.between c.in-Ok.evidence c.written.result c.requires
    c.in-Ok.ensures.accused c.in-Ok.ensures.complete c.written.ensures
