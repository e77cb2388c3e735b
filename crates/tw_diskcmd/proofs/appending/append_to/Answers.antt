use Rattle.std.proofs.Common.{refl, sym, subst}
use Rattle.sha2.specs.Sha256.{sha256}
use Rattle.tw_base.specs.declared.history.thread.Thread.{Thread}
use Rattle.tw_base.specs.kinds.Faults.{Rose}
use Rattle.tw_service.specs.Serves.{Serves, disk_of, pages_of}
use Rattle.tw_diskcmd.proofs.StoreAtRest.{rose_since}
use Rattle.tw_diskcmd.proofs.StoreSteps.{answered_commits, refused_commits}
use Rattle.tw_diskcmd.specs.Disks.{found_disk}
use Rattle.tw_diskcmd.specs.Faults.{fault_of_service}
use Rattle.tw_diskcmd.proofs.AtRest.{answered_steps, refused_steps, refused_unwritten}
use Rattle.tw_diskcmd.proofs.Steps.{step_done, step_refused}
use Rattle.tw_diskcmd.proofs.appending.append_to.Goals as goal

pub returns-in-Ok-clause-comes : goal.returns-in-Ok-clause-comes
returns-in-Ok-clause-comes g c = λ found before opens serves le.
    let d = g.D.Disk in
    step_done (found_disk found before (d.view c.close.result).faults) c.args.events.now c.args.time
    c.args.service.is_broken c.args.service.recorded.kept.root (pages_of d.view c.args.service) opens c.requires
    (Serves sha256 d.view c.args.service) (Serves sha256 d.view c.add.new.service) serves
    c.in-Ok.thread c.in-Ok.ensures.table c.in-Ok.ensures.thread.2 (λ h served. let made = c.in-Ok.ensures.steps h
    served in (made.next, made.done.0)) c.in-Ok.ensures.answer

pub returns-in-Err-clause-comes : goal.returns-in-Err-clause-comes
returns-in-Err-clause-comes g c = λ found before opens serves le.
    let d = g.D.Disk in
    step_refused (found_disk found before (d.view c.close-in-Err.result).faults) c.args.events.now c.args.time
    c.args.service.is_broken c.args.service.recorded.kept.root (pages_of d.view c.args.service) opens c.requires
    (Serves sha256 d.view c.args.service) (Serves sha256 d.view c.add.new.service) serves
    c.in-Err.refusal c.fault_of_service.result c.fault_of_service.ensures c.in-Err.ensures.table
    (λ h served. (c.in-Err.ensures.steps h served).machine c.requires)
    (λ is. rose_since before (d.view (disk_of c.args.service)).faults (d.view c.close-in-Err.result).faults le
    (subst (λ disk. Rose (d.view (disk_of c.args.service)).faults (d.view disk).faults)
    (sym c.close-in-Err.ensures.disk) (c.in-Err.ensures.fault is)))
    c.in-Err.ensures.answer

pub returns-in-Ok-clause-leaves : goal.returns-in-Ok-clause-leaves
returns-in-Ok-clause-leaves g c = λ h served.
    answered_steps g.met.D.Disk.only_now (c.in-Ok.ensures.steps h served) c.close.ensures.disk

pub returns-in-Err-clause-leaves : goal.returns-in-Err-clause-leaves
returns-in-Err-clause-leaves g c = λ h served.
    refused_steps g.met.D.Disk.only_now c.fault_of_service.ensures (c.in-Err.ensures.steps h served)
    c.close-in-Err.ensures.disk

pub returns-in-Err-clause-unwritten : goal.returns-in-Err-clause-unwritten
returns-in-Err-clause-unwritten g c =
    refused_unwritten Thread g.D.Disk.view g.met.D.Disk.only_now c.args.service c.add.new.service c.close-in-Err.result
    c.in-Err.refusal c.fault_of_service.result c.fault_of_service.ensures c.in-Err.ensures.unwritten
    c.close-in-Err.ensures.disk

pub returns-in-Ok-clause-writes : goal.returns-in-Ok-clause-writes
returns-in-Ok-clause-writes g c = λ ps over. answered_commits (c.in-Ok.ensures.written ps over) c.close.ensures.disk

pub returns-in-Err-clause-writes : goal.returns-in-Err-clause-writes
returns-in-Err-clause-writes g c = λ ps over.
    refused_commits fault_of_service refl c.fault_of_service.ensures (c.in-Err.ensures.written ps over)
    c.close-in-Err.ensures.disk
