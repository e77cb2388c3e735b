-- What receiving a message makes of a store and of its root record.
use Rattle.std.specs.Prelude.{◌≡◌, ◌≢◌, ◌⊎◌, ℕ, ◌+◌, ◌≤◌, List, Option, Some, Result, Err, IfErr, IfOk, OnErr, false}
use Rattle.tw_base.specs.history.History.{History}
use Rattle.tw_base.specs.history.Limits.{IsStep}
use Rattle.tw_base.specs.kinds.Faults.{Rose}
use Rattle.tw_disk.specs.Disk.{DiskView, LeavesOnly, Reads}
use Rattle.tw_pages.specs.Records.{written_record}
use Rattle.tw_pages.specs.Rests.{RestsWith}
use Rattle.tw_disk.specs.Image.{Image}
use Rattle.tw_msg.specs.declared.message.Message.{Message}
use Rattle.tw_msg.specs.declared.receipt.Receipt.{Receipt}
use Rattle.tw_pages.specs.declared.store.Store.{Store}
use Rattle.tw_pages.specs.Same.{IsSameStore, store_list}
use Rattle.tw_pages.specs.StoreValue.{is_broken, store_disk}
use Rattle.tw_base.specs.declared.history.refusal.Refusal.{Refusal}
use Rattle.tw_base.specs.declared.history.refusal.Refusal.TheVariants.{DiskFault}
use Rattle.tw_answers.specs.declared.root.RootRecord.{RootRecord}
use Rattle.tw_answers.specs.Roots.{root_kind}
use Rattle.tw_service.specs.Archiving.{ReceivesAs}
use Rattle.tw_service.specs.Finds.{found_reception, receipt_at}
use Rattle.tw_service.specs.Receiving.{TellsOfMessage}
use Rattle.tw_service.specs.Keeps.{StoreServes}
use Rattle.tw_service.specs.Machine.{IsStepOf, NextOf}
use Rattle.tw_service.specs.Machine.Call.{Receive}
use Rattle.tw_service.specs.Machine.Reply.{OfReceipt, Refused}
use Rattle.tw_service.specs.NextRecords.{next_record}
use Rattle.tw_answers.specs.Refusals.{IsBadPageRefusal, IsFault}
use Rattle.tw_service.specs.Stands.{StandsForOneOf}
use Rattle.tw_service.specs.Writing.{ArchivesTo, CommitsRoot, IsReceiptOfRecord}

module _ {D : Type 0} {g : _} (dig : List ℕ → List ℕ) (view : D → DiskView) where
  -- Of a history that was kept at rest, and isn't the message's, there is a next one by the call. Each image that a crash since may leave
  -- stands for one of the two, and so does the content, which is told still. After an answer the next one is kept, at rest, by a step of
  -- the machine; after a refusal but a disk fault the history is, and one that is no fault is a step of the machine.
  pub record StepsIn (m : Message) (time : Option ℕ) (old new : Store D g) (before after : RootRecord) (result : Result Receipt Refusal) (h : History) : Type 0 where
    pub next : History
    pub is_next : NextOf dig (Receive m time) h next
    pub any_moment : LeavesOnly (view (store_disk old)) (view (store_disk new)) (StandsForOneOf dig before.name h next)
    pub told : Reads (view (store_disk new)) (StandsForOneOf dig before.name h next)
    pub done : IfOk result (λ receipt. IsStepOf dig h (Receive m time) (OfReceipt receipt) next × StoreServes dig view new after next)
    pub kept : IfErr result (λ refusal. (refusal ≡ DiskFault) ⊎ StoreServes dig view new after h)
    pub refused : IfErr result (λ refusal. (IsFault refusal → ⊥) → IsStepOf dig h (Receive m time) (Refused refusal) h)
    pub good : IfErr result (λ refusal. IsBadPageRefusal refusal → ⊥)

  -- what receiving this message does, with this time or none, where nothing is staged before
  pub record TakesIn (m : Message) (time : Option ℕ) (old new : Store D g) (before after : RootRecord) (result : Result Receipt Refusal) : Type 0 where
    pub tells : IfErr result (λ refusal. IsFault refusal ⊎ TellsOfMessage dig before.head.step before.time time m refusal)
    pub answer : (ps : Image) → store_list view old ≡ Some ps
        → ReceivesAs dig ps before m time after.head after.archive result (found_reception dig ps before.name before.head before.archive before.time m time)
    pub steps : (h : History) → StoreServes dig view old before h → m.thread.from ≢ before.name → StepsIn m time old new before after result h
    pub written : (ps : Image) → RestsWith view root_kind old (written_record before ps) → CommitsRoot view (ArchivesTo dig m time) (IsReceiptOfRecord dig m time) old new before after result ps
    pub receipt : IfOk result (λ receipt. (receipt.thread ≡ m.thread) × (receipt.by.from ≡ before.name))
    pub record_is : IfOk result (λ receipt. (IsStep receipt.by.step × (receipt.by.step ≤ before.head.step) × (after ≡ before) × IsSameStore view old new)
        ⊎ ((receipt ≡ receipt_at before.name after.head m.thread) × (after.head.step ≡ before.head.step + 1)
        × (after ≡ next_record before after.head after.archive (before.threads + 1) time)))
    pub kept : OnErr result (after ≡ before)
    pub same : IfErr result (λ refusal. (refusal ≡ DiskFault) ⊎ IsSameStore view old new)
    pub whole : (result ≡ Err DiskFault) ⊎ (is_broken new ≡ false)
    pub fault : result ≡ Err DiskFault → Rose (view (store_disk old)).faults (view (store_disk new)).faults
    pub later : (view (store_disk old)).faults ≤ (view (store_disk new)).faults
