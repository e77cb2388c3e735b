use Rattle.std.proofs.Common.{subst, sym}
use Rattle.tw_reachcmd.specs.Anchors.{AreAnchorsOf}
use Rattle.tw_reachcmd.proofs.AdoptFiles.{under_lines}
use Rattle.tw_reachcmd.proofs.adopting.take_under.Goals as goal

pub returns-in-Ok : goal.returns-in-Ok
returns-in-Ok c =
    under_lines c.args.file.now c.args.lines.now c.args.history c.args.proofs c.as_slice.result.now c.take.result
    (subst (AreAnchorsOf c.args.lines.now) (sym c.as_slice.ensures) c.in-Ok.ensures.anchors) c.take.ensures

pub returns-in-Err : goal.returns-in-Err
returns-in-Err c = c.in-Err.ensures.bad
