use Rattle.tw_service.specs.Stands.{IsImageOfHistory, no_history}
use Rattle.sha2.specs.Sha256.{sha256}
use Rattle.tw_base.specs.declared.history.thread.Thread.{Thread}
use Rattle.tw_answers.specs.Roots.{root_kind}
use Rattle.tw_service.specs.Machine.{last_thread}
use Rattle.tw_service.specs.Serves.{disk_of}
use Rattle.tw_diskcmd.proofs.Landings.{made_leaves, unmade, unmade_leaves}
use Rattle.tw_diskcmd.specs.Disks.{found_disk}
use Rattle.tw_diskcmd.proofs.AtRest.{own_rest, stands_taken}
use Rattle.tw_diskcmd.proofs.init.init_service.Goals as goal

pub returns-in-Ok-clause-comes : goal.returns-in-Ok-clause-comes
returns-in-Ok-clause-comes g c = record { free = c.in-Ok.ensures.exact; first = c.first_thread.ensures }

pub returns-in-Ok-clause-leaves : goal.returns-in-Ok-clause-leaves
returns-in-Ok-clause-leaves g c =
    let d = g.D.Disk in
    let first = no_history c.args.name in
    made_leaves root_kind (IsImageOfHistory sha256) d.view c.args.disk c.close.result g.met.D.Disk.as_it_reads stands_taken first
    (disk_of c.in-Ok.service) c.close.ensures.disk (λ image told. own_rest d.view c.close.result
    c.in-Ok.service.recorded.kept.root.name first (c.close.ensures.stands first (c.in-Ok.ensures.served image told)))
    c.in-Ok.ensures.any_moment c.in-Ok.ensures.exact

pub returns-in-Err-clause-comes : goal.returns-in-Err-clause-comes
returns-in-Err-clause-comes g c =
    unmade (found_disk (g.D.Disk.view c.args.disk).content (g.D.Disk.view c.args.disk).faults
    (g.D.Disk.view c.in-Err.disk).faults) (last_thread sha256 (no_history c.args.name)) c.in-Err.fault
    c.fault_of_store.result c.fault_of_store.ensures c.in-Err.ensures.answers c.in-Err.ensures.taken
    c.in-Err.ensures.fault

pub returns-in-Err-clause-leaves : goal.returns-in-Err-clause-leaves
returns-in-Err-clause-leaves g c =
    unmade_leaves root_kind (IsImageOfHistory sha256) g.D.Disk.view c.args.disk c.in-Err.disk g.met.D.Disk.as_it_reads stands_taken
    (no_history c.args.name) Thread c.in-Err.fault c.fault_of_store.result c.fault_of_store.ensures
    c.in-Err.ensures.answers c.in-Err.ensures.unchanged
    (λ image told. (c.in-Err.ensures.any_moment_err image told, c.in-Err.ensures.told image told)) c.in-Err.ensures.held
