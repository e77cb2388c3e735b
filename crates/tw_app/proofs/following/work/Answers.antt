use Rattle.std.proofs.Common.{refl}
use Rattle.tw_app.proofs.Words.{has_outcome, no_memory_outcome, read_command}
use Rattle.tw_app.proofs.following.work.Goals as goal

pub returns-in-Ok : goal.returns-in-Ok
returns-in-Ok g c =
    let has = has_outcome g.D.Disk.view g.met.D.Disk.only_now g.met.D.Disk.as_it_reads _ _ c.in-Ok.command
    (read_command _ c.in-Ok.command c.in-Ok.ensures.form c.in-Ok.ensures.no_form) c.follow.result.outcome
    c.follow.ensures in
    record { comes = has }

pub returns-in-Err-NoMemory : goal.returns-in-Err-NoMemory
returns-in-Err-NoMemory g c =
    record { comes = no_memory_outcome g.D.Disk.view g.met.D.Disk.only_now g.met.D.Disk.as_it_reads _ _ refl }
