use Rattle.std.specs.Prelude.{ℕ, List, Option}
use Rattle.sha2.specs.Sha256.{sha256}
use Rattle.tw_base.specs.declared.history.thread.Thread.{Thread}
use Rattle.tw_follow.specs.HeadLists.{Kept}
use Rattle.tw_follow.specs.Stands.{root_kind}
use Rattle.tw_follow.specs.declared.root.RootRecord.{RootRecord}
use Rattle.tw_msg.specs.declared.message.Message.{Message}
use Rattle.tw_outside.specs.Asked.{asked}
use Rattle.tw_outside.specs.Files.{Files}
use Rattle.tw_diskcmd.specs.Files.{IsBadMessageByte, IsMessageIn}
use Rattle.tw_diskcmd.proofs.Landings.{Addition, comes_of_file, leaves_of_file, stop_leaves, stopped_comes}
use Rattle.tw_diskcmd.specs.FollowerDisks.{IsImageOfHeads}
use Rattle.tw_diskcmd.specs.Offering.{IsNextBy, IsNextListBy, IsOffered}
use Rattle.tw_diskcmd.proofs.offering.offer.Goals as goal

-- the offering of the message that the file holds
abbrev offering_of : Option Files → (file : List ℕ) → Addition RootRecord Kept Message Thread
offering_of told file = record {
  Has = IsMessageIn told file;
  IsBadByte = IsBadMessageByte;
  Is = λ m found came. IsOffered found m came;
  Next = IsNextListBy;
  NextRecord = IsNextBy;
  Answers = λ m thread. IsNextListBy m;
  AnswersRecord = λ m thread. IsNextBy m;
}

pub returns-in-Ok-clause-comes : goal.returns-in-Ok-clause-comes
returns-in-Ok-clause-comes g c =
    let told = g.I.Inputs.told c.args.inputs.now in
    let read = c.in-Ok.ensures.read in
    comes_of_file (offering_of told c.args.file.now) (asked told (g.I.Inputs.faults c.args.inputs.now)
    (g.I.Inputs.faults c.read_message_file.new.inputs)) c.args.file.now g.D.Disk.view c.args.disk
    c.offer_message.result.disk c.in-Ok.message c.offer_message.result.outcome read
    (c.offer_message.ensures.comes read.bytes read.spelled)

pub returns-in-Ok-clause-leaves : goal.returns-in-Ok-clause-leaves
returns-in-Ok-clause-leaves g c =
    let read = c.in-Ok.ensures.read in
    leaves_of_file (root_kind sha256) IsImageOfHeads g.D.Disk.view
    (offering_of (g.I.Inputs.told c.args.inputs.now) c.args.file.now) c.args.disk c.offer_message.result.disk
    c.in-Ok.message c.offer_message.result.outcome read (c.offer_message.ensures.comes read.bytes read.spelled)
    (c.offer_message.ensures.leaves read.bytes read.spelled)
    (c.offer_message.ensures.writes read.bytes read.spelled) (c.offer_message.ensures.unwritten read.bytes read.spelled)
    c.offer_message.ensures.spares

pub returns-in-Err-clause-comes : goal.returns-in-Err-clause-comes
returns-in-Err-clause-comes g c =
    let told = g.I.Inputs.told c.args.inputs.now in
    stopped_comes (offering_of told c.args.file.now) (asked told (g.I.Inputs.faults c.args.inputs.now)
    (g.I.Inputs.faults c.read_message_file.new.inputs)) c.args.file.now g.D.Disk.view c.args.disk c.args.disk
    c.in-Err.fault c.in-Err.ensures.stopped

pub returns-in-Err-clause-leaves : goal.returns-in-Err-clause-leaves
returns-in-Err-clause-leaves g c =
    let told = g.I.Inputs.told c.args.inputs.now in
    stop_leaves (root_kind sha256) IsImageOfHeads g.D.Disk.view (offering_of told c.args.file.now)
    g.met.D.Disk.only_now (asked told (g.I.Inputs.faults c.args.inputs.now)
    (g.I.Inputs.faults c.read_message_file.new.inputs)) c.args.file.now c.args.disk c.in-Err.fault
    c.in-Err.ensures.stopped
