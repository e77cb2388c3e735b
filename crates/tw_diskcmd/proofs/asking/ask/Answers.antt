use Rattle.std.proofs.Common.{ℕ, List, subst}
use Rattle.sha2.specs.Sha256.{sha256}
use Rattle.tw_pages.specs.Disks.{RestsAtState}
use Rattle.tw_pages.specs.Records.{Written, written_record}
use Rattle.tw_pages.proofs.Standing.{written_once}
use Rattle.tw_answers.specs.declared.root.RootRecord.{RootRecord}
use Rattle.tw_answers.specs.Roots.{root_kind}
use Rattle.tw_service.proofs.Standing.{once}
use Rattle.tw_service.specs.Questions.{Besides}
use Rattle.tw_service.specs.Serves.{disk_of, record_of}
use Rattle.tw_diskcmd.proofs.AtRest.{served_as}
use Rattle.tw_diskcmd.specs.Answers.{MachineAnswers, TableAnswersOr}
use Rattle.tw_diskcmd.specs.Asking.{AnswersBy, AskComes, asked_bytes, asked_call, asked_table}
use Rattle.tw_pages.proofs.AtRest.{left_on}
use Rattle.tw_diskcmd.proofs.Landings.{leaves_of_reading, unopened_reading_leaves}
use Rattle.tw_service.specs.Stands.{IsImageOfHistory}
use Rattle.tw_diskcmd.specs.Disks.{IsService}
use Rattle.tw_diskcmd.proofs.Results.{unserved}
use Rattle.tw_diskcmd.proofs.asking.ask.Goals as goal

pub returns-in-Ok-clause-comes : goal.returns-in-Ok-clause-comes
returns-in-Ok-clause-comes g c =
    c.ask_by.ensures.comes _ _ c.in-Ok.ensures.opened (served_as _ c.in-Ok.ensures.served) c.in-Ok.ensures.later

pub returns-in-Ok-clause-leaves : goal.returns-in-Ok-clause-leaves
returns-in-Ok-clause-leaves g c =
    let d = g.D.Disk in
    let mid = disk_of c.in-Ok.service in
    leaves_of_reading root_kind (IsImageOfHistory sha256) d.view c.args.disk c.ask_by.result.disk c.ask_by.result.outcome
    (left_on d.view c.args.disk mid c.ask_by.result.disk (c.in-Ok.ensures.unchanged, c.in-Ok.ensures.any_moment)
    c.ask_by.ensures.leaves) (
      λ h reads. c.ask_by.ensures.rests h (served_as _ c.in-Ok.ensures.served h reads),
      λ w reads.
          let s = c.in-Ok.service in
          let own = c.in-Ok.ensures.over reads.image reads.told in
          subst (λ (v : Written RootRecord). RestsAtState IsService d.view c.ask_by.result.disk v)
          (written_once root_kind once reads.image (written_record (record_of s) own.0) w own.2 reads.stands)
          (c.ask_by.ensures.over own.0 own.3),
    )

pub returns-in-Err-clause-comes : goal.returns-in-Err-clause-comes
unfolding AskComes
returns-in-Err-clause-comes g c =
    let d = g.D.Disk in
    let q = c.args.question.now in
    unserved (asked_bytes q) (TableAnswersOr (Besides q) (asked_table q)) (MachineAnswers (asked_call q) (AnswersBy q))
    (λ cause. tt)
    (d.view c.args.disk).content (d.view c.args.disk).faults (d.view c.in-Err.disk).faults
    c.in-Err.fault c.in-Err.ensures.refused c.in-Err.ensures.answers c.in-Err.ensures.fault c.fault_of_store.result
    c.fault_of_store.ensures

pub returns-in-Err-clause-leaves : goal.returns-in-Err-clause-leaves
returns-in-Err-clause-leaves g c =
    unopened_reading_leaves root_kind (IsImageOfHistory sha256) g.D.Disk.view c.args.disk c.in-Err.disk (List ℕ) c.in-Err.fault
    c.fault_of_store.result c.fault_of_store.ensures
    c.in-Err.ensures.answers.0 (c.in-Err.ensures.unchanged, c.in-Err.ensures.any_moment_err)
