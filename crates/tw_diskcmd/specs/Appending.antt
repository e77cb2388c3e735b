-- `append`: when a step of the events of a file is added, with a time or none, when it isn't, what the command comes to, and what it leaves of the disk.
use Rattle.std.specs.Prelude.{◌≡◌, ◌⊎◌, ℕ, ◌+◌, ◌<◌, ◌≤◌, List, length, Option, None, Result, Ok, Err, false}
use Rattle.sha2.specs.Sha256.{sha256}
use Rattle.tw_base.specs.declared.history.thread.Thread.{Thread}
use Rattle.tw_base.specs.format.Formats.{IsPlace, Spells, SpellsNothing}
use Rattle.tw_base.specs.history.History.{History}
use Rattle.tw_disk.specs.Disk.{DiskView}
use Rattle.tw_disk.specs.Image.{Image}
use Rattle.tw_msg.specs.EventsFile.{events_file}
use Rattle.tw_outside.specs.Asked.{Asked}
use Rattle.tw_outside.specs.Files.{Files, IsThere, TellsBytes}
use Rattle.tw_base.specs.declared.history.refusal.Refusal.{Refusal as ServiceRefusal}
use Rattle.tw_disk.specs.Found.{Found}
use Rattle.tw_service.specs.EventStep.{with_events_at}
use Rattle.tw_service.specs.Finds.{found_thread}
use Rattle.tw_answers.specs.Limits.{append_refusal}
use Rattle.tw_service.specs.Machine.{IsStepOf, last_thread}
use Rattle.tw_service.specs.Machine.Call.{Append}
use Rattle.tw_service.specs.Machine.Reply.{OfThread}
use Rattle.tw_answers.specs.declared.root.RootRecord.{RootRecord}
use Rattle.tw_diskcmd.specs.declared.limits.TheConstants.{EVENTS_LIMIT}
use Rattle.tw_text.specs.declared.fault.CommandFault.{CommandFault}
use Rattle.tw_text.specs.declared.fault.CommandFault.TheVariants as fault
use Rattle.tw_answers.specs.Roots.{root_kind}
use Rattle.tw_service.specs.Writing.{AppendsTo, IsThreadOfNext}
use Rattle.tw_diskcmd.specs.Comes.{FoundDisk, TellsContent}
use Rattle.tw_diskcmd.specs.Files.{FileComes}
use Rattle.tw_diskcmd.specs.Leaves.{StaysOr, WriteLeaves, WriteSafe}
use Rattle.tw_diskcmd.specs.Answers.{ComesTo, IsResult, MachineRefuses, TableRefuses}
use Rattle.tw_service.specs.Stands.{IsImageOfHistory}
use Rattle.tw_diskcmd.specs.Disks.{NextBy, StepsBy}

-- the file is there; where the inputs tell its bytes, they are the events file of these events
pub record AreEventsOf (told : Option Files) (file : List ℕ) (events : List (List ℕ)) : Type 0 where
  pub there : IsThere told file
  pub short : (bytes : List ℕ) → TellsBytes told file bytes → length bytes ≤ EVENTS_LIMIT
  pub spelled : (bytes : List ℕ) → TellsBytes told file bytes → Spells events_file bytes events

-- the place at which the bytes are no events file: the limit, where they are more than that; else that of the first byte at which
-- no events file goes on
abbrev pub IsBadEventsByte : (bytes : List ℕ) (place : ℕ) → Type 0
IsBadEventsByte bytes place =
    ((EVENTS_LIMIT < length bytes) × (place ≡ EVENTS_LIMIT))
    ⊎ ((length bytes ≤ EVENTS_LIMIT) × SpellsNothing events_file bytes × IsPlace events_file bytes place)

-- the thread of the next step that is found in a service's pages, with these events, this time or none, and its archive
abbrev pub append_found : (events : List (List ℕ)) (time : Option ℕ) → RootRecord → Image → Found (Result Thread ServiceRefusal)
append_found events time root pages = found_thread sha256 pages root.name root.head false root.time events time root.archive

-- what the table says for some number of steps and some greatest time so far
abbrev pub table_of : (events : List (List ℕ)) (time : Option ℕ) → ℕ × Option ℕ → Option ServiceRefusal
table_of events time at = append_refusal false at.0 at.1 events time

-- for some such it refuses nothing, and the thread is of the next step
abbrev pub TableAdds : (events : List (List ℕ)) (time : Option ℕ) → Result Thread CommandFault → Type 0
TableAdds events time (Ok thread) = (at : ℕ × Option ℕ) × (table_of events time at ≡ None) × (thread.step ≡ at.0 + 1)
TableAdds events time (Err why) = TableRefuses (table_of events time) why

-- the machine's step to the longer history, whose last thread is told
abbrev pub MachineAdds : (events : List (List ℕ)) (time : Option ℕ) → History → Result Thread CommandFault → Type 0
MachineAdds events time h (Ok thread) =
    (thread ≡ last_thread sha256 (with_events_at h events time)) × IsStepOf sha256 h (Append events time) (OfThread thread) (with_events_at h events time)
MachineAdds events time h (Err why) = MachineRefuses h (Append events time) why

-- the result of the adding of these events to the disk's service, with this time or none
abbrev pub IsStepResult : (found : Option Image) (events : List (List ℕ)) (time : Option ℕ) → Result Thread CommandFault → Type 0
IsStepResult found events time result = IsResult (append_found events time) (TableAdds events time) (MachineAdds events time) found result

-- what it comes to
abbrev pub StepComes : FoundDisk → (events : List (List ℕ)) (time : Option ℕ) → Result Thread CommandFault → Type 0
StepComes t events time result = ComesTo (append_found events time) (TableAdds events time) (MachineAdds events time) t result

-- what the command comes to: its file isn't read or is none, or the adding of its events comes to it
abbrev pub AppendComes : Asked → FoundDisk → (file : List ℕ) (time : Option ℕ) → Result Thread CommandFault → Type 0
AppendComes a t file time result = FileComes a file IsBadEventsByte (AreEventsOf a.told file) (λ events found came. IsStepResult found events time came) t result

-- the result tells of the file or of the disk's content, and isn't one that may always come or comes of a fault
abbrev pub TellsOfFile : Result Thread CommandFault → Type 0
TellsOfFile (Err fault.InputFault) = ⊥
TellsOfFile result = TellsContent result

module _ {D : Type 0} (view : D → DiskView) (old new : D) (told : Option Files) (file : List ℕ) (time : Option ℕ) where
  -- the next history is the machine's by the adding of the file's events, and the next record and pages those of the step that is found
  abbrev pub AppendSafe : Type 0
  AppendSafe =
      WriteSafe root_kind (IsImageOfHistory sha256) view old new (AreEventsOf told file) (λ events. NextBy (Append events time)) (λ events. StaysOr (AppendsTo sha256 events time))

  -- the answer is the machine's, and the thread of that record
  abbrev pub AppendLeaves : Result Thread CommandFault → Type 0
  AppendLeaves result =
      WriteLeaves root_kind (IsImageOfHistory sha256) view old new (AreEventsOf told file) (λ events. NextBy (Append events time)) (λ events. StaysOr (AppendsTo sha256 events time))
      (λ events found came. IsStepResult found events time came) (λ events thread. StepsBy (Append events time) (OfThread thread))
      (λ events thread. IsThreadOfNext sha256 events time thread) result
