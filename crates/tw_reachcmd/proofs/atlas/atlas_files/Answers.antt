use Rattle.std.proofs.Common.{Err, arith, refl}
use Rattle.tw_outside.specs.Asked.{asked}
use Rattle.tw_atlas.proofs.HopOrder.{ordered-few}
use Rattle.tw_reachcmd.proofs.ReceiptFiles.{atlas_of}
use Rattle.tw_reachcmd.proofs.atlas.atlas_files.Goals as goal

pub plan-requires : goal.plan-requires
plan-requires g c = omega (arith, ordered-few c.in-Ok.hops, c.in-Ok.ensures.1)

pub returns-in-Err : goal.returns-in-Err
returns-in-Err g c =
    atlas_of (asked (g.I.Inputs.told c.args.inputs.now) (g.I.Inputs.faults c.args.inputs.now)
    (g.I.Inputs.faults c.read_hops.new.inputs))
    (record { from = c.args.name; step = c.args.step }) c.args.files.now (Err c.in-Err.fault) c.in-Err.fault refl
    c.in-Err.ensures

pub returns-in_ok-atlas-in-Ok : goal.returns-in_ok-atlas-in-Ok
returns-in_ok-atlas-in-Ok g c = (refl, (c.in-Ok.hops, c.in-Ok.ensures.0, c.in_ok-atlas-in-Ok.ensures))
