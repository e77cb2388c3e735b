use Rattle.tw_reachcmd.proofs.AdoptFiles.{short_taken}
use Rattle.tw_reachcmd.proofs.adopting.take.Goals as goal

pub file_of-requires : goal.file_of-requires
file_of-requires c = short_taken c.args.anchors.now c.args.history c.args.proofs c.in-Ok.adopted c.requires.short
    c.in-Ok.ensures.answer
