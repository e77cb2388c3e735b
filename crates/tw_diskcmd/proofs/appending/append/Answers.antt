use Rattle.std.specs.Prelude.{ℕ, List, Option}
use Rattle.sha2.specs.Sha256.{sha256}
use Rattle.tw_base.specs.declared.history.thread.Thread.{Thread}
use Rattle.tw_base.specs.history.History.{History}
use Rattle.tw_answers.specs.Roots.{root_kind}
use Rattle.tw_answers.specs.declared.root.RootRecord.{RootRecord}
use Rattle.tw_outside.specs.Asked.{asked}
use Rattle.tw_outside.specs.Files.{Files}
use Rattle.tw_service.specs.Machine.Call.{Append}
use Rattle.tw_service.specs.Machine.Reply.{OfThread}
use Rattle.tw_service.specs.Writing.{AppendsTo, IsThreadOfNext}
use Rattle.tw_diskcmd.specs.Leaves.{StaysOr}
use Rattle.tw_diskcmd.proofs.Landings.{Addition, comes_of_file, leaves_of_file, stop_leaves, stopped_comes}
use Rattle.tw_diskcmd.specs.Appending.{AreEventsOf, IsBadEventsByte, IsStepResult}
use Rattle.tw_service.specs.Stands.{IsImageOfHistory}
use Rattle.tw_diskcmd.specs.Disks.{NextBy, StepsBy}
use Rattle.tw_diskcmd.proofs.appending.append.Goals as goal

-- a step of the events that the file holds
abbrev step_of : Option Files → (file : List ℕ) (time : Option ℕ) → Addition RootRecord History (List (List ℕ)) Thread
step_of told file time = record {
  Has = AreEventsOf told file;
  IsBadByte = IsBadEventsByte;
  Is = λ events found came. IsStepResult found events time came;
  Next = λ events. NextBy (Append events time);
  NextRecord = λ events. StaysOr (AppendsTo sha256 events time);
  Answers = λ events thread. StepsBy (Append events time) (OfThread thread);
  AnswersRecord = λ events. IsThreadOfNext sha256 events time;
}

pub returns-in-Ok-clause-comes : goal.returns-in-Ok-clause-comes
returns-in-Ok-clause-comes g c =
    let told = g.I.Inputs.told c.args.inputs.now in
    comes_of_file (step_of told c.args.file.now c.args.time) (asked told (g.I.Inputs.faults c.args.inputs.now)
    (g.I.Inputs.faults c.read_step.new.inputs)) c.args.file.now g.D.Disk.view c.args.disk c.append_events.result.disk
    c.in-Ok.events c.append_events.result.outcome c.in-Ok.ensures.read c.append_events.ensures.comes

pub returns-in-Ok-clause-leaves : goal.returns-in-Ok-clause-leaves
returns-in-Ok-clause-leaves g c =
    leaves_of_file root_kind (IsImageOfHistory sha256) g.D.Disk.view
    (step_of (g.I.Inputs.told c.args.inputs.now) c.args.file.now c.args.time) c.args.disk c.append_events.result.disk
    c.in-Ok.events c.append_events.result.outcome
    c.in-Ok.ensures.read c.append_events.ensures.comes c.append_events.ensures.leaves c.append_events.ensures.writes
    c.append_events.ensures.unwritten c.append_events.ensures.spares

pub returns-in-Err-clause-comes : goal.returns-in-Err-clause-comes
returns-in-Err-clause-comes g c =
    let told = g.I.Inputs.told c.args.inputs.now in
    stopped_comes (step_of told c.args.file.now c.args.time) (asked told (g.I.Inputs.faults c.args.inputs.now)
    (g.I.Inputs.faults c.read_step.new.inputs)) c.args.file.now g.D.Disk.view c.args.disk c.args.disk
    c.in-Err.fault c.in-Err.ensures.stopped

pub returns-in-Err-clause-leaves : goal.returns-in-Err-clause-leaves
returns-in-Err-clause-leaves g c =
    let told = g.I.Inputs.told c.args.inputs.now in
    stop_leaves root_kind (IsImageOfHistory sha256) g.D.Disk.view (step_of told c.args.file.now c.args.time)
    g.met.D.Disk.only_now (asked told (g.I.Inputs.faults c.args.inputs.now)
    (g.I.Inputs.faults c.read_step.new.inputs)) c.args.file.now c.args.disk c.in-Err.fault c.in-Err.ensures.stopped
