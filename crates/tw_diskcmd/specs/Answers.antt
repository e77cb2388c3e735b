-- What a command over the disk of a service answers: a function of what the disk is served as.
use Rattle.std.specs.Prelude.{◌≡◌, ◌⊎◌, ℕ, Option, Some, None, Result, Ok, Err}
use Rattle.sha2.specs.Sha256.{sha256}
use Rattle.tw_base.specs.history.History.{History}
use Rattle.tw_disk.specs.Image.{Image}
use Rattle.tw_disk.specs.Found.{Found}
use Rattle.tw_disk.specs.Found.Found.{Is, Bad}
use Rattle.tw_service.specs.Machine.{Call, IsStepOf}
use Rattle.tw_service.specs.Machine.Reply.{Refused}
use Rattle.tw_service.specs.Stands.{IsServed, OpensWith}
use Rattle.tw_pages.specs.Records.{Served}
use Rattle.tw_pages.specs.Records.Served.{Opened, Unopened}
use Rattle.tw_base.specs.declared.history.refusal.Refusal.{Refusal}
use Rattle.tw_answers.specs.declared.root.RootRecord.{RootRecord}
use Rattle.tw_text.specs.declared.refusal.StoreCause.TheVariants.{BadPage}
use Rattle.tw_text.specs.declared.fault.CommandFault.{CommandFault}
use Rattle.tw_text.specs.declared.fault.CommandFault.TheVariants as fault
use Rattle.tw_diskcmd.specs.Comes.{DiskComes, FoundDisk}
use Rattle.tw_diskcmd.specs.StoreFaults.{fault_of_store}
use Rattle.tw_diskcmd.specs.Disks.{ReadsAsHistory}
use Rattle.tw_diskcmd.specs.Faults.{fault_of_service}

-- where what the disk read as is told, it opens with this root record and these pages
abbrev pub IsOpened : (found : Option Image) → RootRecord → (pages : Option Image) → Type 0
IsOpened found root pages = (image : Image) → found ≡ Some image → OpensWith image root (λ ps. pages ≡ Some ps)

-- ---- answers

module _ {X : Type 0} where
  -- where what the disk read as is told, this holds of what it is served as, and of the result
  abbrev pub IsAnswerOver : (Over : Served RootRecord → Result X CommandFault → Type 0) → (found : Option Image) → Result X CommandFault → Type 0
  IsAnswerOver Over found result = (image : Image) → found ≡ Some image → (served : Served RootRecord) × IsServed image served × Over served result

  -- what is found in a service's pages, as the command's result
  abbrev pub result_of : Found (Result X Refusal) → Result X CommandFault
  result_of (Is (Ok value)) = Ok value
  result_of (Is (Err refusal)) = Err (fault_of_service refusal)
  result_of (Bad page) = Err (fault.Unserved (BadPage page))

  -- the answer: what is found in the pages of the service, or why there is none
  abbrev pub answer_over : (finds : RootRecord → Image → Found (Result X Refusal)) → Served RootRecord → Result X CommandFault
  answer_over finds (Opened w) = result_of (finds w.root w.pages)
  answer_over finds (Unopened why) = Err (fault_of_store why)

  -- the result is the answer over what the disk is served as
  abbrev pub IsTheAnswer : (finds : RootRecord → Image → Found (Result X Refusal)) → Served RootRecord → Result X CommandFault → Type 0
  IsTheAnswer finds served result = result ≡ answer_over finds served

-- ---- refusals

-- the fault is that of a refusal of which P holds
abbrev pub IsRefusal : (P : Refusal → Type 0) → CommandFault → Type 0
IsRefusal P why = (refusal : Refusal) × (why ≡ fault_of_service refusal) × P refusal

-- over whatever disk: the fault is the refusal of the table for some service, of which it asks this, or tells of the disk
abbrev pub TableRefuses : {S : Type 0} → (table : S → Option Refusal) → CommandFault → Type 0
TableRefuses table (fault.Unserved cause) = Unit {0}
TableRefuses {S} table why = IsRefusal (λ refusal. (of : S) × (table of ≡ Some refusal)) why

-- where the disk reads as this history: the machine refuses the call so, and it is never told that nothing is served
abbrev pub MachineRefuses : History → Call → CommandFault → Type 0
MachineRefuses h call (fault.Unserved cause) = ⊥
MachineRefuses h call why = IsRefusal (λ refusal. IsStepOf sha256 h call (Refused refusal) h) why

-- ---- answers of a command whose refusals are of one table, or come after it

module _ {X : Type 0} where
  -- for some number of steps the table refuses nothing, where there is an answer; else the refusal is the table's
  abbrev pub TableAnswers : (table : (last : ℕ) → Option Refusal) → Result X CommandFault → Type 0
  TableAnswers table (Ok value) = (last : ℕ) × (table last ≡ None)
  TableAnswers table (Err why) = TableRefuses table why

  -- the same of a command that has refusals besides, for which pages are read: these come where the table refuses nothing
  abbrev pub TableAnswersOr : (Further : Refusal → Type 0) → (table : (last : ℕ) → Option Refusal) → Result X CommandFault → Type 0
  TableAnswersOr Further table (Ok value) = (last : ℕ) × (table last ≡ None)
  TableAnswersOr Further table (Err (fault.Unserved cause)) = Unit {0}
  TableAnswersOr Further table (Err why) = IsRefusal (λ refusal. (last : ℕ) × ((table last ≡ Some refusal) ⊎ ((table last ≡ None) × Further refusal))) why

  -- where the disk reads as this history: the answer is what is made of it, or else the machine refuses the call
  abbrev pub MachineAnswers : (call : History → Call) → (Makes : X → History → Type 0) → History → Result X CommandFault → Type 0
  MachineAnswers call Makes h (Ok value) = Makes value h
  MachineAnswers call Makes h (Err why) = MachineRefuses h (call h) why

-- ---- what a command comes to

module _ {X : Type 0} where
  module _ (Over : Served RootRecord → Result X CommandFault → Type 0) (ByTable : Result X CommandFault → Type 0) (ByMachine : History → Result X CommandFault → Type 0) where
    -- the result is an answer, the table allows it, and where the disk reads as a history, it is what the machine does
    pub record IsResultOver (found : Option Image) (result : Result X CommandFault) : Type 0 where
      pub answer : IsAnswerOver Over found result
      pub table : ByTable result
      pub machine : (h : History) → ReadsAsHistory found h → ByMachine h result

    -- what it comes to
    abbrev pub ComesOver : FoundDisk → Result X CommandFault → Type 0
    ComesOver t result = DiskComes IsResultOver t result

  -- the same of a command whose answer is a function of what the disk is served as
  module _ (finds : RootRecord → Image → Found (Result X Refusal)) (ByTable : Result X CommandFault → Type 0) (ByMachine : History → Result X CommandFault → Type 0) where
    abbrev pub IsResult : (found : Option Image) → Result X CommandFault → Type 0
    IsResult found result = IsResultOver (IsTheAnswer finds) ByTable ByMachine found result

    abbrev pub ComesTo : FoundDisk → Result X CommandFault → Type 0
    ComesTo t result = ComesOver (IsTheAnswer finds) ByTable ByMachine t result
