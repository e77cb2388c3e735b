-- What a call of a service writes, whatever the pages of its store keep.
use Rattle.std.specs.Prelude.{◌≡◌, ◌⊎◌, ℕ, ◌+◌, ◌≤◌, List, ◌++◌, length, Option, Some, None, Result, false}
use Rattle.tw_base.specs.declared.history.content.Content.TheVariants.{Events}
use Rattle.tw_base.specs.declared.history.thread.Thread.{Thread}
use Rattle.tw_disk.specs.declared.limits.TheConstants.{FIRST_PAGE}
use Rattle.tw_disk.specs.Disk.{DiskView}
use Rattle.tw_disk.specs.Found.Found.{Is}
use Rattle.tw_disk.specs.Image.{Image}
use Rattle.tw_pages.specs.Commits.{Commits as CommitsOf}
use Rattle.tw_pages.specs.Records.{Written}
use Rattle.tw_msg.specs.declared.message.Message.{Message}
use Rattle.tw_msg.specs.declared.receipt.Receipt.{Receipt}
use Rattle.tw_pages.specs.declared.store.Store.{Store}
use Rattle.tw_skiplist.specs.Appended.{appended}
use Rattle.tw_base.specs.declared.history.refusal.Refusal.{Refusal}
use Rattle.tw_base.specs.declared.history.refusal.Refusal.TheVariants.{DiskFault}
use Rattle.tw_answers.specs.Limits.{append_refusal}
use Rattle.tw_service.specs.declared.receiving.Reception.TheVariants.{Archive}
use Rattle.tw_answers.specs.declared.root.RootRecord.{RootRecord}
use Rattle.tw_service.specs.Archiving.{IsStagedBehind}
use Rattle.tw_service.specs.Finds.{found_reception, receipt_at, thread_at}
use Rattle.tw_service.specs.NextRecords.{event_record, next_record}
use Rattle.tw_answers.specs.Roots.{root_kind}

-- what a call makes of a store at rest with its record and these pages, whatever they keep
abbrev pub CommitsRoot : {D T : Type 0} {g : _} (view : D → DiskView) (IsNext : (w next : Written RootRecord) → Type 0) (IsAnswer : T → (w next : Written RootRecord) → Type 0)
    (old new : Store D g) (before after : RootRecord) (result : Result T Refusal) (ps : Image) → Type 0
CommitsRoot view IsNext IsAnswer old new before after result ps = CommitsOf view root_kind DiskFault IsNext IsAnswer old new before after result ps

module _ (dig : List ℕ → List ℕ) where
  -- A step of these events, with this time or none, which the table allows, makes the record of the step that is found in the pages, and
  -- the pages that are found with it, which stand behind them.
  pub record AppendsTo (events : List (List ℕ)) (time : Option ℕ) (w next : Written RootRecord) : Type 0 where
    pub allowed : append_refusal false w.root.head.step w.root.time events time ≡ None
    pub more : Image
    pub behind : next.pages ≡ w.pages ++ more
    pub root : next.root ≡ event_record w.root next.root.head time
    pub is : appended dig w.pages w.root.head (Events events) w.root.archive time ≡ Is (record { pages = next.pages; value = next.root.head })

  -- A step of this thread makes the record of a step that is found behind new pages of a tree, with the root of that tree, which is one of
  -- them, and the pages that are found with it. The new pages are those that put the thread into the archive's tree, and no others: the pages
  -- of the way to its place, as it is found, whatever the pages beside it keep. Where the pages that were there stand for the archive's tree,
  -- those of the tree stand for the one with the thread in it.
  pub record AddsThread (t : Thread) (time : Option ℕ) (w next : Written RootRecord) : Type 0 where
    pub more : Image
    pub behind : next.pages ≡ w.pages ++ more
    pub root : next.root ≡ next_record w.root next.root.head next.root.archive (w.root.threads + 1) time
    pub staged : IsStagedBehind dig w.pages w.root t time (Some next.pages) next.root.head next.root.archive
    pub new_tree : FIRST_PAGE + length w.pages ≤ next.root.archive.page

  -- the message is one that is to be archived, by what is found in the pages, and a step of its thread makes these
  pub record ArchivesTo (m : Message) (time : Option ℕ) (w next : Written RootRecord) : Type 0 where
    pub accepted : found_reception dig w.pages w.root.name w.root.head w.root.archive w.root.time m time ≡ Is Archive
    pub adds : AddsThread m.thread time w next

  -- events are answered by the thread of the next step
  abbrev pub IsThreadOfNext : (events : List (List ℕ)) (time : Option ℕ) → Thread → (w next : Written RootRecord) → Type 0
  IsThreadOfNext events time thread w next = (thread ≡ thread_at next.root.name next.root.head) × AppendsTo events time w next

  -- a thread is answered by the receipt of the next step
  abbrev pub IsReceiptOfNext : Thread → (time : Option ℕ) → Receipt → (w next : Written RootRecord) → Type 0
  IsReceiptOfNext t time receipt w next = (receipt ≡ receipt_at w.root.name next.root.head t) × AddsThread t time w next

  -- a message is answered by the receipt of the next step, or of an earlier one, where nothing is written
  abbrev pub IsReceiptOfRecord : Message → (time : Option ℕ) → Receipt → (w next : Written RootRecord) → Type 0
  IsReceiptOfRecord m time receipt w next = ((next ≡ w) × (receipt.by.step ≤ w.root.head.step)) ⊎ ((receipt ≡ receipt_at w.root.name next.root.head m.thread) × ArchivesTo m time w next)
