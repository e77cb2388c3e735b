use Rattle.std.proofs.Common.{subst, sym}
use Rattle.tw_reachcmd.specs.Anchors.{AreAnchorsOf}
use Rattle.tw_reachcmd.proofs.check_map.judged.Goals as goal

pub returns-in-Err : goal.returns-in-Err
returns-in-Err c = c.in-Err.ensures.bad

pub returns-in-Ok : goal.returns-in-Ok
returns-in-Ok c = (
  c.as_slice.result.now,
  subst (AreAnchorsOf c.args.lines.now) (sym c.as_slice.ensures) c.in-Ok.ensures.anchors,
  record { is_verdict = c.check_map.ensures.verdict; binds = c.check_map.ensures.binds },
)
