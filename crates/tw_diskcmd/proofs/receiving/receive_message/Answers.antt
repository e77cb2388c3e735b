use Rattle.std.proofs.Common.{inl, refl, subst}
use Rattle.sha2.specs.Sha256.{sha256}
use Rattle.tw_msg.specs.declared.receipt.Receipt.{Receipt}
use Rattle.tw_pages.specs.Records.{Written, written_record}
use Rattle.tw_pages.proofs.AtRest.{left_on}
use Rattle.tw_pages.proofs.Standing.{written_once}
use Rattle.tw_answers.specs.declared.root.RootRecord.{RootRecord}
use Rattle.tw_answers.specs.Roots.{root_kind}
use Rattle.tw_service.specs.Machine.Call.{Receive}
use Rattle.tw_service.specs.Machine.Reply.{OfReceipt}
use Rattle.tw_service.specs.Serves.{disk_of, record_of}
use Rattle.tw_service.specs.Writing.{ArchivesTo, IsReceiptOfRecord}
use Rattle.tw_service.proofs.Standing.{once}
use Rattle.tw_diskcmd.proofs.AtRest.{served_as}
use Rattle.tw_diskcmd.specs.Leaves.{StaysOr}
use Rattle.tw_diskcmd.specs.Steps.{AddsFrom}
use Rattle.tw_diskcmd.proofs.StoreSteps.{adds_on, unopened_adds}
use Rattle.tw_diskcmd.specs.Receiving.{IsReceivedOver, MachineReceives, TableReceives}
use Rattle.tw_service.specs.Stands.{IsImageOfHistory}
use Rattle.tw_diskcmd.specs.Disks.{IsService, NextBy, StepsBy}
use Rattle.tw_diskcmd.proofs.Results.{unopened_comes}
use Rattle.tw_diskcmd.proofs.receiving.receive_message.Goals as goal

pub returns-in-Ok-clause-comes : goal.returns-in-Ok-clause-comes
returns-in-Ok-clause-comes g c =
    c.receive_by.ensures.comes _ _ c.in-Ok.ensures.opened (served_as _ c.in-Ok.ensures.served) c.in-Ok.ensures.later

pub returns-in-Ok-clause-leaves : goal.returns-in-Ok-clause-leaves
returns-in-Ok-clause-leaves g c =
    let call = Receive c.args.message.now c.args.time in
    adds_on (IsImageOfHistory sha256) g.D.Disk.view (NextBy call) (λ (receipt : Receipt). StepsBy call (OfReceipt receipt)) c.args.disk
    (disk_of c.in-Ok.service) c.receive_by.result.disk c.receive_by.result.outcome
    c.in-Ok.ensures.any_moment (λ h reads. c.receive_by.ensures.leaves h (served_as _ c.in-Ok.ensures.served h reads))

pub returns-in-Err-clause-comes : goal.returns-in-Err-clause-comes
returns-in-Err-clause-comes g c =
    let d = g.D.Disk in
    let m = c.args.message.now in
    unopened_comes (IsReceivedOver m c.args.time) (TableReceives m c.args.time) (MachineReceives m c.args.time)
    (λ f. refl) (λ cause. tt) (d.view c.args.disk).content (d.view c.args.disk).faults (d.view c.in-Err.disk).faults
    c.in-Err.fault c.in-Err.ensures.refused c.in-Err.ensures.answers c.in-Err.ensures.fault c.fault_of_store.result
    c.fault_of_store.ensures

pub returns-in-Err-clause-leaves : goal.returns-in-Err-clause-leaves
returns-in-Err-clause-leaves g c =
    let call = Receive c.args.message.now c.args.time in
    unopened_adds (IsImageOfHistory sha256) g.D.Disk.view (NextBy call) (λ (receipt : Receipt). StepsBy call (OfReceipt receipt))
    (λ h. (h, inl refl)) c.args.disk c.in-Err.disk
    c.in-Err.fault c.fault_of_store.result c.fault_of_store.ensures c.in-Err.ensures.answers c.in-Err.ensures.unchanged
    c.in-Err.ensures.any_moment_err

pub returns-in-Ok-clause-unwritten : goal.returns-in-Ok-clause-unwritten
returns-in-Ok-clause-unwritten g c = λ nothing.
    left_on g.D.Disk.view c.args.disk (disk_of c.in-Ok.service) c.receive_by.result.disk
    (c.in-Ok.ensures.unchanged, c.in-Ok.ensures.any_moment) (c.receive_by.ensures.unwritten nothing)

pub returns-in-Err-clause-unwritten : goal.returns-in-Err-clause-unwritten
returns-in-Err-clause-unwritten g c = λ nothing. (c.in-Err.ensures.unchanged, c.in-Err.ensures.any_moment_err)

pub returns-in-Ok-clause-spares : goal.returns-in-Ok-clause-spares
returns-in-Ok-clause-spares g c = λ image why told not. absurd (c.in-Ok.ensures.exact image why told not)

pub returns-in-Err-clause-spares : goal.returns-in-Err-clause-spares
returns-in-Err-clause-spares g c = λ image why told not. (c.in-Err.ensures.unchanged, c.in-Err.ensures.any_moment_err)

pub returns-in-Ok-clause-writes : goal.returns-in-Ok-clause-writes
returns-in-Ok-clause-writes g c =
    let d = g.D.Disk in
    let s = c.in-Ok.service in
    let Next = StaysOr (ArchivesTo sha256 c.args.message.now c.args.time) in
    let Answers = IsReceiptOfRecord sha256 c.args.message.now c.args.time in
    adds_on IsService d.view Next Answers c.args.disk (disk_of s) c.receive_by.result.disk c.receive_by.result.outcome
    c.in-Ok.ensures.any_moment (λ w reads.
    let own = c.in-Ok.ensures.over reads.image reads.told in
    subst (λ (v : Written RootRecord). AddsFrom IsService d.view (disk_of s) c.receive_by.result.disk Next Answers v
    c.receive_by.result.outcome)
    (written_once root_kind once reads.image (written_record (record_of s) own.0) w own.2 reads.stands)
    (c.receive_by.ensures.writes own.0 own.3))

pub returns-in-Err-clause-writes : goal.returns-in-Err-clause-writes
returns-in-Err-clause-writes g c =
    unopened_adds IsService g.D.Disk.view (StaysOr (ArchivesTo sha256 c.args.message.now c.args.time))
    (IsReceiptOfRecord sha256 c.args.message.now c.args.time) (λ w. (w, inl refl)) c.args.disk c.in-Err.disk
    c.in-Err.fault c.fault_of_store.result c.fault_of_store.ensures c.in-Err.ensures.answers c.in-Err.ensures.unchanged
    c.in-Err.ensures.any_moment_err
