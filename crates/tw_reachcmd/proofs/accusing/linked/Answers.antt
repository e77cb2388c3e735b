use Rattle.tw_reachcmd.proofs.PartFiles.{linked_spelled}
use Rattle.tw_reachcmd.proofs.accusing.linked.Goals as goal

pub made-requires : goal.made-requires
made-requires c = linked_spelled c.args.bytes.now c.args.pair.0 c.args.pair.1 c.in-Ok.between c.requires c.in-Ok.ensures
