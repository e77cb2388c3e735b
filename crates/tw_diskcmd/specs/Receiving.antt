-- `receive`: when the thread of a file's message is archived, at a time or at none, when it isn't, what the command comes to, and what it
-- leaves of the disk.
use Rattle.std.specs.Prelude.{◌≡◌, ℕ, ◌+◌, ◌<◌, ◌≤◌, List, Option, None, MatchOption, Result, Ok, Err, false}
use Rattle.sha2.specs.Sha256.{sha256}
use Rattle.tw_base.specs.declared.history.root.Root.{Root}
use Rattle.tw_base.specs.history.History.{History}
use Rattle.tw_disk.specs.Disk.{DiskView}
use Rattle.tw_disk.specs.Image.{Image}
use Rattle.tw_msg.specs.declared.message.Message.{Message}
use Rattle.tw_msg.specs.declared.receipt.Receipt.{Receipt}
use Rattle.tw_outside.specs.Asked.{Asked}
use Rattle.tw_outside.specs.Files.{Files}
use Rattle.tw_skiplist.specs.declared.head.Head.{Head}
use Rattle.tw_base.specs.declared.history.refusal.Refusal.{Refusal as ServiceRefusal}
use Rattle.tw_answers.specs.declared.root.RootRecord.{RootRecord}
use Rattle.tw_answers.specs.Limits.{own_refusal}
use Rattle.tw_service.specs.Archiving.{ReceivesAs}
use Rattle.tw_service.specs.Finds.{found_reception}
use Rattle.tw_service.specs.Machine.{IsStepOf}
use Rattle.tw_service.specs.Machine.Call.{Receive}
use Rattle.tw_service.specs.Machine.Reply.{OfReceipt}
use Rattle.tw_service.specs.Receiving.{TellsOfMessage}
use Rattle.tw_service.specs.Stands.{IsImageOfHistory}
use Rattle.tw_pages.specs.Records.{Served}
use Rattle.tw_pages.specs.Records.Served.{Opened, Unopened}
use Rattle.tw_text.specs.declared.fault.CommandFault.{CommandFault}
use Rattle.tw_text.specs.declared.fault.CommandFault.TheVariants as fault
use Rattle.tw_answers.specs.Roots.{root_kind}
use Rattle.tw_service.specs.Writing.{ArchivesTo, IsReceiptOfRecord}
use Rattle.tw_diskcmd.specs.Comes.{FoundDisk}
use Rattle.tw_diskcmd.specs.StoreFaults.{fault_of_store}
use Rattle.tw_diskcmd.specs.Files.{FileComes, IsBadMessageByte, IsMessageIn}
use Rattle.tw_diskcmd.specs.Leaves.{StaysOr, WriteLeaves, WriteSafe}
use Rattle.tw_diskcmd.specs.Answers.{ComesOver, IsRefusal, IsResultOver, MachineRefuses}
use Rattle.tw_diskcmd.specs.Disks.{NextBy, StepsBy}
use Rattle.tw_diskcmd.specs.Faults.{fault_of_service}

-- ---- the message

-- an answer of the service, as the command's result
abbrev pub receipt_as_told : Result Receipt ServiceRefusal → Result Receipt CommandFault
receipt_as_told (Ok receipt) = Ok receipt
receipt_as_told (Err refusal) = Err (fault_of_service refusal)

module _ (m : Message) (time : Option ℕ) where
  -- a service with this root record and these pages answers the message so: its own one by refusing it, and another by what becomes of it
  -- there, with some head and archive after it
  abbrev pub AnswersMessage : RootRecord → (pages : Image) → Result Receipt ServiceRefusal → Type 0
  AnswersMessage root pages answer =
      MatchOption (own_refusal false root.name m.thread.from)
      ((head : Head) × (archive : Root)
      × ReceivesAs sha256 pages root m time head archive answer (found_reception sha256 pages root.name root.head root.archive root.time m time))
      (λ refusal. answer ≡ Err refusal)

  -- the result is such an answer of the service that the disk is served as, or tells why there is none
  abbrev pub IsReceivedOver : Served RootRecord → Result Receipt CommandFault → Type 0
  IsReceivedOver (Opened w) result = (answer : Result Receipt ServiceRefusal) × AnswersMessage w.root w.pages answer × (result ≡ receipt_as_told answer)
  IsReceivedOver (Unopened why) result = result ≡ Err (fault_of_store why)

  -- a service with this root record refuses the message so, by the record, or with what it tells of the message
  abbrev pub RefusesMessage : RootRecord → ServiceRefusal → Type 0
  RefusesMessage root refusal =
      MatchOption (own_refusal false root.name m.thread.from) (TellsOfMessage sha256 root.head.step root.time time m refusal) (λ own. refusal ≡ own)

  -- the receipt is by a service with this root record, and of the message: by one of its steps, or by the next one
  pub record ReceiptsMessage (root : RootRecord) (receipt : Receipt) : Type 0 where
    pub other : own_refusal false root.name m.thread.from ≡ None
    pub by : receipt.by.from ≡ root.name
    pub step : (0 < receipt.by.step) × (receipt.by.step ≤ root.head.step + 1)
    pub thread : receipt.thread ≡ m.thread

  -- over whatever disk: for some record the receipt is such a one, and the refusal; or the fault tells of the disk
  abbrev pub TableReceives : Result Receipt CommandFault → Type 0
  TableReceives (Ok receipt) = (root : RootRecord) × ReceiptsMessage root receipt
  TableReceives (Err (fault.Unserved cause)) = Unit {0}
  TableReceives (Err why) = IsRefusal (λ refusal. (root : RootRecord) × RefusesMessage root refusal) why

  -- where the disk reads as this history: the receipt is a step of the machine to a next one, or else the machine refuses the call
  abbrev pub MachineReceives : History → Result Receipt CommandFault → Type 0
  MachineReceives h (Ok receipt) = (next : History) × IsStepOf sha256 h (Receive m time) (OfReceipt receipt) next
  MachineReceives h (Err why) = MachineRefuses h (Receive m time) why

  -- the result of the receiving of this message by the disk's service, and what it comes to
  abbrev pub IsReceived : (found : Option Image) → Result Receipt CommandFault → Type 0
  IsReceived found result = IsResultOver IsReceivedOver TableReceives MachineReceives found result

  abbrev pub ReceivedMessageComes : FoundDisk → Result Receipt CommandFault → Type 0
  ReceivedMessageComes t result = ComesOver IsReceivedOver TableReceives MachineReceives t result

-- ---- the command

-- what it comes to: its file isn't read or is none, or the receiving of its message comes to it
abbrev pub ReceiveComes : Asked → FoundDisk → (file : List ℕ) (time : Option ℕ) → Result Receipt CommandFault → Type 0
ReceiveComes a t file time result = FileComes a file IsBadMessageByte (IsMessageIn a.told file) (λ m found came. IsReceived m time found came) t result

-- ---- what it leaves

module _ {D : Type 0} (view : D → DiskView) (old new : D) (told : Option Files) (file : List ℕ) (time : Option ℕ) where
  -- the next history is one by the machine's receiving of the file's message, and the next record and pages those of a step that archives it
  abbrev pub ReceiveSafe : Type 0
  ReceiveSafe =
      WriteSafe root_kind (IsImageOfHistory sha256) view old new (IsMessageIn told file) (λ m. NextBy (Receive m time)) (λ m. StaysOr (ArchivesTo sha256 m time))

  -- the answer is the machine's, and the receipt of that record, or of an earlier step that received the thread
  abbrev pub ReceiveLeaves : Result Receipt CommandFault → Type 0
  ReceiveLeaves result =
      WriteLeaves root_kind (IsImageOfHistory sha256) view old new (IsMessageIn told file) (λ m. NextBy (Receive m time)) (λ m. StaysOr (ArchivesTo sha256 m time))
      (λ m found came. IsReceived m time found came) (λ m receipt. StepsBy (Receive m time) (OfReceipt receipt)) (λ m receipt. IsReceiptOfRecord sha256 m time receipt) result
