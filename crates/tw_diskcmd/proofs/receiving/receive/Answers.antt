use Rattle.std.specs.Prelude.{ℕ, List, Option}
use Rattle.sha2.specs.Sha256.{sha256}
use Rattle.tw_base.specs.history.History.{History}
use Rattle.tw_answers.specs.Roots.{root_kind}
use Rattle.tw_answers.specs.declared.root.RootRecord.{RootRecord}
use Rattle.tw_msg.specs.declared.message.Message.{Message}
use Rattle.tw_msg.specs.declared.receipt.Receipt.{Receipt}
use Rattle.tw_outside.specs.Asked.{asked}
use Rattle.tw_outside.specs.Files.{Files}
use Rattle.tw_service.specs.Machine.Call.{Receive}
use Rattle.tw_service.specs.Machine.Reply.{OfReceipt}
use Rattle.tw_service.specs.Writing.{ArchivesTo, IsReceiptOfRecord}
use Rattle.tw_diskcmd.specs.Files.{IsBadMessageByte, IsMessageIn}
use Rattle.tw_diskcmd.specs.Leaves.{StaysOr}
use Rattle.tw_diskcmd.proofs.Landings.{Addition, comes_of_file, leaves_of_file, stop_leaves, stopped_comes}
use Rattle.tw_service.specs.Stands.{IsImageOfHistory}
use Rattle.tw_diskcmd.specs.Disks.{NextBy, StepsBy}
use Rattle.tw_diskcmd.specs.Receiving.{IsReceived}
use Rattle.tw_diskcmd.proofs.receiving.receive.Goals as goal

-- the receiving of the message that the file holds
abbrev receiving_of : Option Files → (file : List ℕ) (time : Option ℕ) → Addition RootRecord History Message Receipt
receiving_of told file time = record {
  Has = IsMessageIn told file;
  IsBadByte = IsBadMessageByte;
  Is = λ m found came. IsReceived m time found came;
  Next = λ m. NextBy (Receive m time);
  NextRecord = λ m. StaysOr (ArchivesTo sha256 m time);
  Answers = λ m receipt. StepsBy (Receive m time) (OfReceipt receipt);
  AnswersRecord = λ m. IsReceiptOfRecord sha256 m time;
}

pub returns-in-Ok-clause-comes : goal.returns-in-Ok-clause-comes
returns-in-Ok-clause-comes g c =
    let told = g.I.Inputs.told c.args.inputs.now in
    comes_of_file (receiving_of told c.args.file.now c.args.time) (asked told (g.I.Inputs.faults c.args.inputs.now)
    (g.I.Inputs.faults c.read_message_file.new.inputs)) c.args.file.now g.D.Disk.view c.args.disk
    c.receive_message.result.disk c.in-Ok.message c.receive_message.result.outcome c.in-Ok.ensures.read
    c.receive_message.ensures.comes

pub returns-in-Ok-clause-leaves : goal.returns-in-Ok-clause-leaves
returns-in-Ok-clause-leaves g c =
    leaves_of_file root_kind (IsImageOfHistory sha256) g.D.Disk.view
    (receiving_of (g.I.Inputs.told c.args.inputs.now) c.args.file.now c.args.time) c.args.disk
    c.receive_message.result.disk c.in-Ok.message c.receive_message.result.outcome
    c.in-Ok.ensures.read c.receive_message.ensures.comes c.receive_message.ensures.leaves
    c.receive_message.ensures.writes c.receive_message.ensures.unwritten c.receive_message.ensures.spares

pub returns-in-Err-clause-comes : goal.returns-in-Err-clause-comes
returns-in-Err-clause-comes g c =
    let told = g.I.Inputs.told c.args.inputs.now in
    stopped_comes (receiving_of told c.args.file.now c.args.time) (asked told (g.I.Inputs.faults c.args.inputs.now)
    (g.I.Inputs.faults c.read_message_file.new.inputs)) c.args.file.now g.D.Disk.view c.args.disk c.args.disk
    c.in-Err.fault c.in-Err.ensures.stopped

pub returns-in-Err-clause-leaves : goal.returns-in-Err-clause-leaves
returns-in-Err-clause-leaves g c =
    let told = g.I.Inputs.told c.args.inputs.now in
    stop_leaves root_kind (IsImageOfHistory sha256) g.D.Disk.view (receiving_of told c.args.file.now c.args.time)
    g.met.D.Disk.only_now (asked told (g.I.Inputs.faults c.args.inputs.now)
    (g.I.Inputs.faults c.read_message_file.new.inputs)) c.args.file.now c.args.disk c.in-Err.fault
    c.in-Err.ensures.stopped
