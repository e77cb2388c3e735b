use Rattle.std.proofs.Common.{None, refl}
use Rattle.tw_reachcmd.specs.declared.histories.Family.{Family}
use Rattle.tw_reachcmd.proofs.HistoryFiles.{nothing_read}
use Rattle.tw_reachcmd.proofs.histories.read_family.Goals as goal

pub returns-in-Ok-clause-read : goal.returns-in-Ok-clause-read
returns-in-Ok-clause-read g c =
    let begun : Family = record { histories = c.new.result; bad = None; left = 67108864 } in
    c.in-Ok.ensures.read (nothing_read (g.I.Inputs.told c.args.inputs.now) begun c.new.ensures refl refl)
