use Rattle.std.proofs.Common.{Err, None, ap, refl}
use Rattle.tw_outside.specs.Asked.{asked}
use Rattle.tw_reachcmd.specs.declared.atlas.Receipts.{Receipts}
use Rattle.tw_reachcmd.proofs.ReceiptFiles.{hops_come, hops_failed, nothing_read}
use Rattle.tw_reachcmd.proofs.atlas.read_hops.Goals as goal

pub returns-in-Ok : goal.returns-in-Ok
returns-in-Ok g c =
    let told = g.I.Inputs.told c.args.inputs.now in
    let begun : Receipts = record { hops = c.new.result; bad = None } in
    hops_come (asked told (g.I.Inputs.faults c.args.inputs.now) (g.I.Inputs.faults c.read_files.new.inputs))
    c.args.files.now
    c.read_files.new.into c.judged.result
    c.in-Ok.ensures.there c.in-Ok.ensures.holds (c.in-Ok.ensures.read (nothing_read told begun c.new.ensures refl))
    c.judged.ensures.hops c.judged.ensures.bad

pub returns-in-Err : goal.returns-in-Err
returns-in-Err g c =
    hops_failed (asked (g.I.Inputs.told c.args.inputs.now) (g.I.Inputs.faults c.args.inputs.now)
    (g.I.Inputs.faults c.read_files.new.inputs)) c.args.files.now
    c.in-Err.fault c.into.result (λ is. (c.in-Err.ensures.some (ap Err is), c.in-Err.ensures.failed (ap Err is)))
    c.into.ensures
