-- Services on disks in memory, as they are played: which histories they have, and what lines make of them.
use Rattle.std.specs.Prelude.{◌≡◌, ◌⊎◌, ℕ, List, length, map, Bool, true, Option, Some, None, is_none, Result, Ok, Err}
use Rattle.sha2.specs.Sha256.{sha256}
use Rattle.tw_base.specs.declared.history.question.Question.{Question}
use Rattle.tw_base.specs.history.History.{History}
use Rattle.tw_base.specs.declared.history.thread.Key.{Key}
use Rattle.tw_base.specs.declared.history.refusal.Refusal.{Refusal}
use Rattle.tw_base.specs.declared.history.refusal.Refusal.TheVariants.{DiskFault, NoMemory}
use Rattle.tw_disk.specs.Disk.{IsAtRest}
use Rattle.tw_disk.specs.Image.{Image}
use Rattle.tw_disk.specs.MemDisk.{mem_disk_view}
use Rattle.tw_disk.specs.declared.memory_disk.MemDisk.{MemDisk}
use Rattle.tw_service.specs.Machine.{IsStepOf, Reply}
use Rattle.tw_service.specs.Machine.Call.{Ask}
use Rattle.tw_service.specs.Machine.Reply.{OfBytes as ReplyBytes, Refused}
use Rattle.tw_service.specs.Serves.{Serves, disk_of}
use Rattle.tw_service.specs.Stands.{IsImageOfHistory}
use Rattle.tw_service.specs.declared.service.Service.{Service}
use Rattle.tw_text.specs.Summaries.{replayed_line}
use Rattle.tw_world.specs.Runs.{Appending, Receiving, TellsLine, answer_to_reply, receipt_step}
use Rattle.tw_world.specs.declared.counts.Counts.{Counts}
use Rattle.tw_world.specs.declared.host.Host.{Host}
use Rattle.tw_world.specs.declared.told.Answer.{Answer}
use Rattle.tw_world.specs.declared.told.Answer.TheVariants.{Archived, Refused as RefusedBy, Stepped}
use Rattle.tw_world.specs.declared.told.Told.{Told}
use Rattle.tw_world.specs.declared.told.Told.TheVariants.{Crashed, Stopped}

-- ---- which history a service has

-- the disk is at rest and stands for the history for good: every image that a crash may leave does
abbrev pub StandsForGood : MemDisk → History → Type 0
StandsForGood disk h = IsAtRest (mem_disk_view disk) (IsImageOfHistory sha256 h)

-- the service has this history, on its disk for good
pub record HoldsHistory (host : Host) (h : History) : Type 0 where
  pub named : host.name ≡ h.name
  pub counted : host.steps ≡ length h.steps
  pub stands : StandsForGood host.disk h

-- ---- what a line makes of it

-- no service claims a time
abbrev pub claims_none : Option ℕ → Bool
claims_none time = is_none time

-- what a service is given by a line that may add a step: events to append, or bytes to receive
pub data Given : Type 0 where
  OfEvents : (events : List (List ℕ)) → Given
  OfBytes : (bytes : List ℕ) → Given

-- which replies and next histories it has
abbrev pub TakesGiven : Given → History → Reply → History → Type 0
TakesGiven (OfEvents events) = Appending sha256 claims_none events
TakesGiven (OfBytes bytes) = Receiving sha256 claims_none bytes

-- what is told of a reply that is no refusal
abbrev pub own_answer : Given → History → Reply → Answer
own_answer (OfEvents events) next reply = Stepped (length next.steps)
own_answer (OfBytes bytes) next reply = Archived (receipt_step reply)

-- the history stays, or is the next one by a reply
abbrev pub IsNextOf : Given → (h next : History) → Type 0
IsNextOf given h next = (next ≡ h) ⊎ ((reply : Reply) × TakesGiven given h reply next)

-- the answer to a refusal; a disk fault has none, and after want of memory nothing is told
abbrev pub AnswersRefusal : Refusal → Option Answer → Type 0
AnswersRefusal NoMemory answer = ⊥
AnswersRefusal DiskFault answer = answer ≡ None
AnswersRefusal refusal answer = answer ≡ Some (RefusedBy refusal)

-- of a history that was served: the service replied, is to tell this, and serves the next one
pub record HasReplied {H : Type 0} {g : _} {k : _} (given : Given) (h : History) (service : Service MemDisk H g k) (answer : Answer) : Type 0 where
  pub next : History
  pub named : next.name ≡ h.name
  pub reply : Reply
  pub takes : TakesGiven given h reply next
  pub is : answer ≡ answer_to_reply (own_answer given next reply) reply
  pub serves : Serves sha256 mem_disk_view service next

-- after a disk fault every image that a crash may leave stands for it, or for the next one
pub record HasFailed {H : Type 0} {g : _} {k : _} (given : Given) (h : History) (service : Service MemDisk H g k) : Type 0 where
  pub next : History
  pub named : next.name ≡ h.name
  pub is_next : IsNextOf given h next
  pub leaves : (c : Image) → (mem_disk_view (disk_of service)).may_leave c → IsImageOfHistory sha256 h c ⊎ IsImageOfHistory sha256 next c

-- what became of it, by the answer, which a disk fault hasn't
abbrev pub Answered : {H : Type 0} {g : _} {k : _} → Given → History → Service MemDisk H g k → Option Answer → Type 0
Answered given h service (Some answer) = HasReplied given h service answer
Answered given h service None = HasFailed given h service

-- a disk with a number of steps has this history for good
abbrev pub RestsAs : MemDisk → (steps : ℕ) → History → Type 0
RestsAs disk steps h = (steps ≡ length h.steps) × StandsForGood disk h

-- what is told where a crash waited, of an answer and of none, and of so many steps when the service is opened again
abbrev pub crash_told : Option Answer → (steps : ℕ) → Told
crash_told (Some answer) steps = Crashed answer steps
crash_told None steps = Stopped steps

-- the service replies and has the next history, and is told so; or it was stopped by the crash that waited, and has done nothing
abbrev pub GoesOnByReply : Given → (waits : Bool) → (h next : History) → Told → Type 0
GoesOnByReply given waits h next told =
    ((reply : Reply) × TakesGiven given h reply next × TellsLine waits (answer_to_reply (own_answer given next reply) reply) (length next.steps) told)
    ⊎ ((waits ≡ true) × (next ≡ h) × (told ≡ Stopped (length h.steps)))

-- so the line ended, with the next history on this disk for good
pub record LineEnds (given : Given) (waits : Bool) (h : History) (told : Told) (disk : MemDisk) (steps : ℕ) : Type 0 where
  pub next : History
  pub named : next.name ≡ h.name
  pub goes : GoesOnByReply given waits h next told
  pub rests : RestsAs disk steps next

-- ---- what it is asked

-- the machine replies so to the question, by bytes or by a refusal, and the history stays
abbrev pub GivesReply : History → Question → Result (List ℕ) Refusal → Type 0
GivesReply h question (Ok bytes) = IsStepOf sha256 h (Ask question) (ReplyBytes bytes) h
GivesReply h question (Err refusal) = IsStepOf sha256 h (Ask question) (Refused refusal) h

-- the reply is given as it is; after a disk fault and want of memory nothing is given
abbrev pub IsGiven : (reply given : Result (List ℕ) Refusal) → Type 0
IsGiven (Err DiskFault) given = ⊥
IsGiven (Err NoMemory) given = ⊥
IsGiven reply given = given ≡ reply

-- ---- the last line

-- the service's name and the number of its steps
abbrev pub host_key : Host → Key
host_key host = record { from = host.name; step = host.steps }

-- the line of these counts and services
abbrev pub hosts_line : Counts → List Host → List ℕ
hosts_line counts hosts = replayed_line counts.accepted counts.none counts.refused counts.rejected (map host_key hosts)
