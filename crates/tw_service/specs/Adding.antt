-- What a call of a service makes that may add a step.
use Rattle.std.specs.Prelude.{◌≡◌, ◌⊎◌, ◌↔◌, ℕ, ◌+◌, ◌≤◌, List, Option, Some, None, Result, Err, IfErr, IfOk, IsTrue, MatchOption, OnErr, false}
use Rattle.tw_base.specs.declared.history.thread.Thread.{Thread}
use Rattle.tw_base.specs.format.Formats.{Spells, SpellsNothing}
use Rattle.tw_base.specs.history.History.{History}
use Rattle.tw_base.specs.history.Limits.{IsStep}
use Rattle.tw_base.specs.kinds.Faults.{Rose}
use Rattle.tw_disk.specs.Disk.{DiskView, LeavesOnly, Reads}
use Rattle.tw_disk.specs.Image.{Image}
use Rattle.tw_msg.specs.declared.message.Message.{Message}
use Rattle.tw_msg.specs.declared.receipt.Receipt.{Receipt}
use Rattle.tw_msg.specs.Messages.{message_layout}
use Rattle.tw_base.specs.declared.history.refusal.Refusal.{Refusal}
use Rattle.tw_base.specs.declared.history.refusal.Refusal.TheVariants.{DiskFault, NoMemory}
use Rattle.tw_service.specs.declared.service.Service.{Service}
use Rattle.tw_answers.specs.Finds.{IsFoundAnswer}
use Rattle.tw_service.specs.Archiving.{ReceivesAs}
use Rattle.tw_service.specs.Finds.{found_reception, found_thread}
use Rattle.tw_service.specs.Receiving.{RefusesNoMessage, TellsOfMessage}
use Rattle.tw_answers.specs.Limits.{append_refusal, own_refusal}
use Rattle.tw_service.specs.Machine.{AnswersByMachine, Call, IsStepOf, NextOf, Reply}
use Rattle.tw_service.specs.Machine.Call.{Append, Receive}
use Rattle.tw_service.specs.Machine.Reply.{OfReceipt, OfThread}
use Rattle.tw_service.specs.NextRecords.{next_record}
use Rattle.tw_answers.specs.Refusals.{IsFault}
use Rattle.tw_service.specs.Serves.{HasSameDisk, IsOver, Serves, archive_of, clock_of, disk_of, has_failed, head_of, head_thread, name_of, pages_of, record_of, steps_of, threads_of}
use Rattle.tw_service.specs.Stands.{StandsFor, StandsForOneOf, greater}
use Rattle.tw_service.specs.Writing.{AppendsTo, ArchivesTo, CommitsRoot, IsReceiptOfRecord, IsThreadOfNext}

module _ {D H : Type 0} {g : _} {k : _} (dig : List ℕ → List ℕ) (view : D → DiskView) where
  -- Of a history that was served there is a next one by the call. Each image that a crash since may leave stands for one of the two,
  -- and so does the content, which is told still, after a disk fault too. After an answer the next one is served, at rest, by a step of
  -- the machine. After a refusal but a disk fault the history is served as before, at rest, and each image stands for it; and where no
  -- earlier call met a disk fault, the refusal is a step of the machine, a disk fault and want of memory excepted.
  pub record CallSteps {T : Type 0} (call : Call) (reply : T → Reply) (old new : Service D H g k) (result : Result T Refusal) (h : History) : Type 0 where
    pub next : History
    pub is_next : NextOf dig call h next
    pub any_moment : LeavesOnly (view (disk_of old)) (view (disk_of new)) (StandsForOneOf dig (name_of old) h next)
    pub told : Reads (view (disk_of new)) (StandsForOneOf dig (name_of old) h next)
    pub done : IfOk result (λ value. IsStepOf dig h call (reply value) next × Serves dig view new next)
    pub refused : IfErr result (λ refusal. (refusal ≡ DiskFault)
        ⊎ (Serves dig view new h × LeavesOnly (view (disk_of old)) (view (disk_of new)) (λ i. StandsFor dig i (name_of old) h)))
    pub machine : has_failed old ≡ false → IfErr result (λ refusal. AnswersByMachine dig h call reply (Err refusal) (Serves dig view new))

  -- what adding a step of these events does, with this time or none
  pub record AppendsEvents (events : List (List ℕ)) (time : Option ℕ) (old new : Service D H g k) (result : Result Thread Refusal) : Type 0 where
    -- each refusal of the table comes exactly where its line is the first that stands; else only faults of the disk, of its pages and
    -- of memory are left
    pub table : MatchOption (append_refusal (has_failed old) (steps_of old) (clock_of old) events time) (IfErr result IsFault) (λ refusal. result ≡ Err refusal)
    -- over told pages, whatever they keep, the answer is what is found in them, a disk fault and want of memory excepted
    pub answer : (ps : Image) → pages_of view old ≡ Some ps
        → IsFoundAnswer result (found_thread dig ps (name_of old) (head_of old) (has_failed old) (clock_of old) events time (archive_of old))
    -- of each history that was served
    pub steps : (h : History) → Serves dig view old h → CallSteps (Append events time) OfThread old new result h
    -- whatever its pages keep
    pub written : (ps : Image) → IsOver view old ps
        → CommitsRoot view (AppendsTo dig events time) (IsThreadOfNext dig events time) old.recorded.kept.store new.recorded.kept.store (record_of old) (record_of new) result ps
    -- the answer is the thread of the new head, which is that of the next step of the value's name
    pub thread : IfOk result (λ thread. (thread ≡ head_thread new) × (thread.from ≡ name_of old) × (thread.step ≡ steps_of old + 1))
    -- archive and number of threads stay as they were, over whatever store; and the record then has the greater time
    pub archive : (archive_of new ≡ archive_of old) × (threads_of new ≡ threads_of old)
    pub clock : IfOk result (λ thread. clock_of new ≡ greater (clock_of old) time)
    -- after each refusal name, head and greatest time are as before; after one but a disk fault nothing was written
    pub kept : OnErr result ((head_of new ≡ head_of old) × (name_of new ≡ name_of old) × (clock_of new ≡ clock_of old))
    pub unwritten : IfErr result (λ refusal. (refusal ≡ DiskFault) ⊎ HasSameDisk view old new)
    -- that a call answered a disk fault is remembered, and nothing else is remembered so
    pub broken : IsTrue (has_failed new) ↔ (IsTrue (has_failed old) ⊎ (result ≡ Err DiskFault))
    -- a disk fault comes only where the disk's count of faults rose, which never falls
    pub fault : result ≡ Err DiskFault → Rose (view (disk_of old)).faults (view (disk_of new)).faults
    pub later : (view (disk_of old)).faults ≤ (view (disk_of new)).faults

  -- what receiving this message does, with this time or none
  pub record Receives (m : Message) (time : Option ℕ) (old new : Service D H g k) (result : Result Receipt Refusal) : Type 0 where
    -- each of the first refusals of the table comes exactly where its line is the first that stands; else only those that tell of the
    -- message by the archive, or of a further step by the record, and faults of the disk, of its pages and of memory are left
    pub table : MatchOption (own_refusal (has_failed old) (name_of old) m.thread.from)
        (IfErr result (λ refusal. IsFault refusal ⊎ TellsOfMessage dig (steps_of old) (clock_of old) time m refusal)) (λ refusal. result ≡ Err refusal)
    -- over told pages, whatever they keep, what becomes of the message is what is found in them, and the answer is by that, a disk
    -- fault and want of memory excepted
    pub answer : own_refusal (has_failed old) (name_of old) m.thread.from ≡ None → (ps : Image) → pages_of view old ≡ Some ps
        → ReceivesAs dig ps (record_of old) m time (head_of new) (archive_of new) result (found_reception dig ps (name_of old) (head_of old) (archive_of old) (clock_of old) m time)
    -- of each history that was served
    pub steps : (h : History) → Serves dig view old h → CallSteps (Receive m time) OfReceipt old new result h
    -- whatever its pages keep
    pub written : (ps : Image) → IsOver view old ps
        → CommitsRoot view (ArchivesTo dig m time) (IsReceiptOfRecord dig m time) old.recorded.kept.store new.recorded.kept.store (record_of old) (record_of new) result ps
    -- the receipt is of the message's thread; either it is by a step up to the last one, nothing was written and the record is as before,
    -- or it is by the step of the new head, the next one, and the record has one thread more and the greater time
    pub receipt : IfOk result (λ receipt. (receipt.thread ≡ m.thread) × (receipt.by.from ≡ name_of old))
    pub record_is : IfOk result (λ receipt. (IsStep receipt.by.step × (receipt.by.step ≤ steps_of old) × (record_of new ≡ record_of old) × HasSameDisk view old new)
        ⊎ ((receipt.by ≡ head_thread new) × (steps_of new ≡ steps_of old + 1)
        × (record_of new ≡ next_record (record_of old) (head_of new) (archive_of new) (threads_of old + 1) time)))
    -- after each refusal the record is as before; after one but a disk fault nothing was written
    pub kept : OnErr result (record_of new ≡ record_of old)
    pub unwritten : IfErr result (λ refusal. (refusal ≡ DiskFault) ⊎ HasSameDisk view old new)
    -- that a call answered a disk fault is remembered, and nothing else is remembered so
    pub broken : IsTrue (has_failed new) ↔ (IsTrue (has_failed old) ⊎ (result ≡ Err DiskFault))
    -- a disk fault comes only where the disk's count of faults rose, which never falls
    pub fault : result ≡ Err DiskFault → Rose (view (disk_of old)).faults (view (disk_of new)).faults
    pub later : (view (disk_of old)).faults ≤ (view (disk_of new)).faults

  -- what receiving these bytes does, with this time or none
  pub record ReceivesBytes (bytes : List ℕ) (time : Option ℕ) (old new : Service D H g k) (result : Result Receipt Refusal) : Type 0 where
    -- bytes that are no message are refused, and nothing has changed
    pub malformed : SpellsNothing message_layout bytes → RefusesNoMessage (has_failed old) bytes result × (new ≡ old)
    -- bytes that are a message are received as that message is; or, where no earlier call met a disk fault, there was no memory to read it
    pub message : (m : Message) → Spells message_layout bytes m
        → ((has_failed old ≡ false) × (result ≡ Err NoMemory) × (new ≡ old)) ⊎ Receives m time old new result
