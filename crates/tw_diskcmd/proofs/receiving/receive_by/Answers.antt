use Rattle.std.proofs.Common.{◌≡◌, ◌<◌, ◌≤◌, ◌+◌, ap, arith, refl, sym, subst, inl, inr}
use Rattle.sha2.specs.Sha256.{sha256}
use Rattle.tw_base.specs.declared.history.thread.Thread.{Thread}
use Rattle.tw_base.specs.kinds.Faults.{Rose}
use Rattle.tw_msg.specs.declared.receipt.Receipt.{Receipt}
use Rattle.tw_service.specs.Serves.{Serves, archive_of, disk_of, has_failed, head_of, pages_of, record_of, steps_of}
use Rattle.tw_diskcmd.proofs.StoreAtRest.{rose_since}
use Rattle.tw_diskcmd.proofs.StoreSteps.{answered_commits, refused_commits}
use Rattle.tw_diskcmd.specs.Disks.{found_disk}
use Rattle.tw_diskcmd.specs.Faults.{fault_of_service}
use Rattle.tw_diskcmd.proofs.AtRest.{answered_steps, refused_steps, refused_unwritten}
use Rattle.tw_diskcmd.proofs.Received.{received_done, received_refused}
use Rattle.tw_diskcmd.proofs.receiving.receive_by.Goals as goal

pub returns-in-Ok-clause-comes : goal.returns-in-Ok-clause-comes
returns-in-Ok-clause-comes g c = λ found before opens serves le.
    let d = g.D.Disk in
    let old = c.args.service in
    let new = c.take.new.service in
    let r = c.in-Ok.ensures in
    let step : (0 < c.in-Ok.receipt.by.step) × (c.in-Ok.receipt.by.step ≤ steps_of old + 1) = elim r.record_is [
      | inl known ↦ (known.0.0, omega (arith, known.1))
      | inr made ↦
          let same : c.in-Ok.receipt.by.step ≡ steps_of new = ap (λ (t : Thread). t.step) made.0 in
          let next : steps_of new ≡ steps_of old + 1 = made.1 in (omega (arith, same, next), omega (arith, same, next))
    ] in
    received_done c.args.message.now c.args.time (found_disk found before (d.view c.close.result).faults)
    (has_failed old) (record_of old) (pages_of d.view old) opens c.requires.whole
    (Serves sha256 d.view old) (Serves sha256 d.view new) serves (head_of new) (archive_of new) c.in-Ok.receipt
    r.table r.answer r.receipt step (λ h served. let made = r.steps h served in (made.next, made.done.0))

pub returns-in-Err-clause-comes : goal.returns-in-Err-clause-comes
returns-in-Err-clause-comes g c = λ found before opens serves le.
    let view = g.D.Disk.view in
    let old = c.args.service in
    received_refused c.args.message.now c.args.time (found_disk found before (view c.close-in-Err.result).faults)
    (has_failed old) (record_of old) (pages_of view old) opens c.requires.whole (Serves sha256 view old)
    (Serves sha256 view c.take.new.service) serves (head_of c.take.new.service) (archive_of c.take.new.service)
    c.in-Err.refusal c.fault_of_service.result c.fault_of_service.ensures c.in-Err.ensures.table c.in-Err.ensures.answer
    (λ h served. (c.in-Err.ensures.steps h served).machine c.requires.whole)
    (λ is. rose_since before (view (disk_of old)).faults (view c.close-in-Err.result).faults le
    (subst (λ disk. Rose (view (disk_of old)).faults (view disk).faults) (sym c.close-in-Err.ensures.disk)
    (c.in-Err.ensures.fault is)))

pub returns-in-Ok-clause-leaves : goal.returns-in-Ok-clause-leaves
returns-in-Ok-clause-leaves g c = λ h served.
    answered_steps g.met.D.Disk.only_now (c.in-Ok.ensures.steps h served) c.close.ensures.disk

pub returns-in-Err-clause-leaves : goal.returns-in-Err-clause-leaves
returns-in-Err-clause-leaves g c = λ h served.
    refused_steps g.met.D.Disk.only_now c.fault_of_service.ensures (c.in-Err.ensures.steps h served)
    c.close-in-Err.ensures.disk

pub returns-in-Err-clause-unwritten : goal.returns-in-Err-clause-unwritten
returns-in-Err-clause-unwritten g c =
    refused_unwritten Receipt g.D.Disk.view g.met.D.Disk.only_now c.args.service c.take.new.service c.close-in-Err.result
    c.in-Err.refusal c.fault_of_service.result c.fault_of_service.ensures c.in-Err.ensures.unwritten
    c.close-in-Err.ensures.disk

pub returns-in-Ok-clause-writes : goal.returns-in-Ok-clause-writes
returns-in-Ok-clause-writes g c = λ ps over. answered_commits (c.in-Ok.ensures.written ps over) c.close.ensures.disk

pub returns-in-Err-clause-writes : goal.returns-in-Err-clause-writes
returns-in-Err-clause-writes g c = λ ps over.
    refused_commits fault_of_service refl c.fault_of_service.ensures (c.in-Err.ensures.written ps over)
    c.close-in-Err.ensures.disk
