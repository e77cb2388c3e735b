-- Over which disks the services of a script are played, line by line, and how a crash comes that waits.
use Rattle.std.specs.Prelude.{◌≡◌, ℕ, zero, suc, ◌+◌, ◌-◌, ◌^◌, min, List, [], ◌∷◌, ◌++◌, Option, Some, None, IsNone, IsTrue, MatchOption, Result, Ok, Err, false, slice_get, slice_set}
use Rattle.std.specs.Str.{bytes_eq}
use Rattle.sha2.specs.Sha256.{sha256}
use Rattle.tw_base.specs.declared.history.refusal.Refusal.{Refusal}
use Rattle.tw_base.specs.declared.history.thread.Thread.{Thread}
use Rattle.tw_disk.specs.Disk.{LeavesOnly}
use Rattle.tw_disk.specs.Image.{Image}
use Rattle.tw_disk.specs.MemDisk.{IsPlanned, IsSameMemDisk, failing_calls, failing_reads_of, is_stopped, made_of, mem_disk_view, pages_of, state_of}
use Rattle.tw_disk.specs.Model.{outcome}
use Rattle.tw_disk.specs.declared.memory_disk.MemDisk.{MemDisk}
use Rattle.tw_msg.specs.declared.receipt.Receipt.{Receipt}
use Rattle.tw_script.specs.declared.line.CrashChoice.{CrashChoice}
use Rattle.tw_script.specs.declared.line.CrashChoice.TheVariants.{Old, New, Zeros, Ones}
use Rattle.tw_script.specs.declared.line.Line.{Line}
use Rattle.tw_script.specs.declared.line.Line.TheVariants.{Service, Append, Send, Deliver, Crash, Prove, Anchor}
use Rattle.tw_service.specs.Adding.{AppendsEvents, ReceivesBytes}
use Rattle.tw_service.specs.Serves.{disk_of, steps_of}
use Rattle.tw_service.specs.declared.service.Service.{Service as OpenService}
use Rattle.tw_world.specs.Hosts.{AnswersRefusal, Given, crash_told}
use Rattle.tw_world.specs.Hosts.Given.{OfBytes, OfEvents}
use Rattle.tw_world.specs.Worlds.{Mail, World, numbered}
use Rattle.tw_world.specs.Worlds.Mail.{Made, Unmade, Dropped}
use Rattle.tw_world.specs.declared.host.Host.{Host}
use Rattle.tw_world.specs.declared.host.Opened.{Opened}
use Rattle.tw_world.specs.declared.host.Planned.{Planned}
use Rattle.tw_world.specs.declared.told.Answer.{Answer}
use Rattle.tw_world.specs.declared.told.Answer.TheVariants.{Archived, Stepped}
use Rattle.tw_world.specs.declared.told.Told.{Told}
use Rattle.tw_world.specs.declared.told.Told.TheVariants.{Plain}

-- ---- a line that may add a step

-- the number by which a disk in memory takes a choice
abbrev pub choice_number : CrashChoice → ℕ
choice_number Old = 0
choice_number New = 1
choice_number Zeros = 2
choice_number Ones = 3

-- The disk that the service is opened over: the one that there is; where a crash waits, planned to stop at the crash's call, counted behind
-- the one that opening makes.
abbrev pub StartsOn : Option Planned → (disk start : MemDisk) → Type 0
StartsOn None disk start = start ≡ disk
StartsOn (Some planned) disk start =
    IsSameMemDisk disk start
    × IsPlanned start (failing_calls disk) (failing_reads_of disk) (Some (min (made_of disk + min (planned.call + 1) (2 ^ 64 - 1)) (2 ^ 64 - 1)))

-- what the disk has at the end of the line: where a crash waited, what its choice leaves of what was written; else what was written
abbrev pub pages_left : Option Planned → MemDisk → Image
pages_left None disk = pages_of disk
pages_left (Some planned) disk = outcome (choice_number planned.choice) (state_of disk)

-- an answered line is told its answer, and behind it the crash that waited; only a line without an answer is told as stopped
abbrev pub TellsAnswer : Option Planned → Option Answer → (steps : ℕ) → Told → Type 0
TellsAnswer None None steps told = ⊥
TellsAnswer None (Some answer) steps told = told ≡ Plain answer
TellsAnswer (Some planned) answer steps told = told ≡ crash_told answer steps

-- the answer to what a call of a service came to; to a disk fault there is none
abbrev pub AnswersResult : {T : Type 0} → (own : T → Answer) → Result T Refusal → Option Answer → Type 0
AnswersResult own (Ok value) answer = answer ≡ Some (own value)
AnswersResult own (Err refusal) answer = AnswersRefusal refusal answer

module _ {H : Type 0} {g : _} {k : _} where
  -- opening the disk led to the service, and wrote nothing
  abbrev pub IsOpenedOn : MemDisk → OpenService MemDisk H g k → Type 0
  IsOpenedOn disk service =
      (pages_of (disk_of service) ≡ pages_of disk)
      × LeavesOnly (mem_disk_view disk) (mem_disk_view (disk_of service)) (mem_disk_view disk).may_leave

  -- the service's call does what the line gives it, and is answered so
  abbrev pub DoesGiven : Given → (old new : OpenService MemDisk H g k) → Option Answer → Type 0
  DoesGiven (OfEvents events) old new answer =
      (result : Result Thread Refusal) × AppendsEvents sha256 mem_disk_view events None old new result
      × AnswersResult (λ (t : Thread). Stepped (steps_of new)) result answer
  DoesGiven (OfBytes bytes) old new answer =
      (result : Result Receipt Refusal) × ReceivesBytes sha256 mem_disk_view bytes None old new result
      × AnswersResult (λ (receipt : Receipt). Archived receipt.by.step) result answer

-- a service that was opened over this disk, for a line that this crash waits for
abbrev pub IsOpenedFor : (disk : MemDisk) → Option Planned → Opened → Type 0
IsOpenedFor disk crash opened = (opened.crash ≡ crash) × ((start : MemDisk) × StartsOn crash disk start × IsOpenedOn start opened.service)

-- the line ends with this answer of its service: it is told so, with the number of steps that the service then has, and this disk is left;
-- without an answer the service's disk is stopped
pub record LineEndsWith (done : Opened) (answer : Option Answer) (told : Told) (disk : MemDisk) (steps : ℕ) : Type 0 where
  pub tells : TellsAnswer done.crash answer steps told
  pub stopped : IsNone answer → IsTrue (is_stopped (disk_of done.service))
  pub left : pages_of disk ≡ pages_left done.crash (disk_of done.service)

-- the line gave this to the service: it was opened over its disk, did what was asked, and the line ended with its answer; a crash that waited
-- is over
pub record IsGivenOn (given : Given) (told : Told) (old new : Host) : Type 0 where
  pub named : new.name ≡ old.name
  pub over : new.crash ≡ None
  pub opened : Opened
  pub opens : IsOpenedFor old.disk old.crash opened
  pub done : Opened
  pub waits : done.crash ≡ old.crash
  pub answer : Option Answer
  pub does : DoesGiven given opened.service done.service answer
  pub ends : LineEndsWith done answer told new.disk new.steps

-- ---- every line

-- the service is asked: its disk has the same pages, and a crash that waits goes on waiting
pub record IsAskedOn (old new : Host) : Type 0 where
  pub named : new.name ≡ old.name
  pub waits : new.crash ≡ old.crash
  pub pages : pages_of new.disk ≡ pages_of old.disk

-- the place of the first service of this name
abbrev pub IsFirst : List Host → (name : List ℕ) → (at : ℕ) → Type 0
IsFirst [] name at = ⊥
IsFirst (host ∷ hosts) name zero = host.name ≡ name
IsFirst (host ∷ hosts) name (suc at) = (bytes_eq host.name name ≡ false) × IsFirst hosts name at

-- the first service of this name becomes another, and all others stay
abbrev pub Becomes : (name : List ℕ) → (Into : Host → Host → Type 0) → (hosts next : List Host) → Type 0
Becomes name Into hosts next =
    (at : ℕ) × (old : Host) × (new : Host) × IsFirst hosts name at × (slice_get hosts at ≡ Some old) × (next ≡ slice_set hosts at new) × Into old new

-- the crash waits for the service, in place of another that waited
abbrev pub WaitsFor : Planned → Host → Host → Type 0
WaitsFor planned old new = new ≡ record old { crash = Some planned }

-- a message that was made is given to the service, and one that wasn't to none
abbrev pub IsDeliveredOn : Mail → (name : List ℕ) → Told → (hosts next : List Host) → Type 0
IsDeliveredOn (Made bytes) name told hosts next = Becomes name (IsGivenOn (OfBytes bytes) told) hosts next
IsDeliveredOn Unmade name told hosts next = next ≡ hosts
IsDeliveredOn Dropped name told hosts next = ⊥

-- The line leads from these services on their disks to those. A `crash` line makes its own crash wait, and the service's next `append`, or delivery
-- of a message that was made, ends in that.
abbrev pub IsLineOn : World → List Host → Line → Told → List Host → Type 0
IsLineOn w hosts (Service name) told next = (host : Host) × (next ≡ hosts ++ host ∷ []) × (host.name ≡ name) × (host.crash ≡ None)
IsLineOn w hosts (Append name events) told next = Becomes name (IsGivenOn (OfEvents events) told) hosts next
IsLineOn w hosts (Deliver number name) told next = MatchOption (numbered w.messages number) ⊥ (λ mail. IsDeliveredOn mail name told hosts next)
IsLineOn w hosts (Crash name call choice) told next = Becomes name (WaitsFor (record { call = call; choice = choice })) hosts next
IsLineOn w hosts (Send name since) told next = Becomes name IsAskedOn hosts next
IsLineOn w hosts (Prove name asked) told next = Becomes name IsAskedOn hosts next
IsLineOn w hosts (Anchor name step) told next = Becomes name IsAskedOn hosts next
IsLineOn w hosts _ told next = next ≡ hosts
