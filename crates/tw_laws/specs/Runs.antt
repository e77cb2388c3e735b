-- What comes to a service and its disk, one after the other, and what is published meanwhile.
use Rattle.std.specs.Prelude.{◌≡◌, ◌⊎◌, ◌↔◌, ℕ, List, Some, Result, Ok, Err, IfErr, IfOk, IsTrue, OnErr}
use Rattle.tw_base.specs.declared.history.refusal.Refusal.{Refusal}
use Rattle.tw_base.specs.declared.history.refusal.Refusal.TheVariants.{DiskFault, Reopen}
use Rattle.tw_base.specs.declared.history.thread.Thread.{Thread}
use Rattle.tw_base.specs.history.History.{History}
use Rattle.tw_disk.specs.Disk.{DiskView, LeavesOnly}
use Rattle.tw_disk.specs.Image.{Image}
use Rattle.tw_pages.specs.Runs.{Happening, HoldsOnly, State, Values}
use Rattle.tw_pages.specs.Runs.State.{Closed, Open}
use Rattle.tw_pages.specs.Runs as runs
use Rattle.tw_service.specs.declared.service.Service.{Service}
use Rattle.tw_service.specs.Adding.{CallSteps}
use Rattle.tw_service.specs.Machine.{Call, Reply}
use Rattle.tw_service.specs.Machine.Call.{CountSteps, TellHead, TellName}
use Rattle.tw_service.specs.Machine.Reply.{OfName, OfNumber, OfThread}
use Rattle.tw_service.specs.Serves.{HasSameDisk, Serves, disk_of, has_failed, head_of, head_thread, name_of, steps_of}
use Rattle.tw_service.specs.Stands.{StandsFor}
use Rattle.tw_laws.specs.Published.{IsReplyTo, IsThreadOf, PublishesBy}

-- a call with its answer; or what is told without the disk
pub data ServiceAct : Type 0 where
  Answered : Call → Result Reply Refusal → ServiceAct
  Told : Call → Result Reply Refusal → ServiceAct

-- what a call answers, as a reply
abbrev pub replied : {T : Type 0} → (T → Reply) → Result T Refusal → Result Reply Refusal
replied reply (Ok value) = Ok (reply value)
replied reply (Err refusal) = Err refusal

-- the state is one of services as this one
abbrev pub IsStateOf : {D S : Type 0} → S → State D S → Type 0
IsStateOf service state = Unit {0}

-- what is told without the disk is told after a disk fault too
abbrev pub IsToldUnchanged : {D H : Type 0} {g : _} {k : _} → Call → Result Reply Refusal → Service D H g k → Type 0
IsToldUnchanged CountSteps answer service = answer ≡ Ok (OfNumber (steps_of service))
IsToldUnchanged TellHead answer service = answer ≡ Ok (OfThread (head_thread service))
IsToldUnchanged TellName answer service = answer ≡ Ok (OfName (name_of service))
IsToldUnchanged _ answer service = ⊥

module _ {D H : Type 0} {g : _} {k : _} (dig : List ℕ → List ℕ) (view : D → DiskView) where
  -- where the disk reads as a history, with writes pending or not, the service serves that one; a crash since leaves nothing else than before
  pub record IsServiceOpened (disk : D) (service : Service D H g k) : Type 0 where
    pub serves : (image : Image) (of : List ℕ) (h : History) → (view disk).content ≡ Some image → StandsFor dig image of h → Serves dig view service h
    pub any_moment : LeavesOnly (view disk) (view (disk_of service)) (view disk).may_leave

  -- the call is answered so
  pub record IsCallAnswered (call : Call) (answer : Result Reply Refusal) (old new : Service D H g k) : Type 0 where
    -- by a reply of its kind, or a refusal
    pub kind : IfOk answer (IsReplyTo call)
    -- of each history that was served
    pub steps : (h : History) → Serves dig view old h → CallSteps dig view call (λ reply. reply) old new answer h
    -- where an earlier call on the value met a disk fault, the answer is `Reopen`; and nothing else is remembered so
    pub reopen : IsTrue (has_failed old) → answer ≡ Err Reopen
    pub broken : IsTrue (has_failed new) ↔ (IsTrue (has_failed old) ⊎ (answer ≡ Err DiskFault))
    -- after each refusal name and head are as before; after one but a disk fault nothing was written
    pub kept : OnErr answer ((head_of new ≡ head_of old) × (name_of new ≡ name_of old))
    pub unwritten : IfErr answer (λ refusal. (refusal ≡ DiskFault) ⊎ HasSameDisk view old new)

  -- what is told changes nothing
  abbrev pub DoesAct : ServiceAct → (old new : Service D H g k) → Type 0
  DoesAct (Answered call answer) old new = IsCallAnswered call answer old new
  DoesAct (Told call answer) old new = IsToldUnchanged call answer old × (new ≡ old)

  abbrev pub services : Values D (Service D H g k) ServiceAct
  services = record { disk_of = disk_of; has_failed = has_failed; IsOpenedAs = IsServiceOpened; Does = DoesAct }

  -- the disk stands for this history of this name for good, or the service serves it
  abbrev pub BeginsHistory : (name : List ℕ) → History → State D (Service D H g k) → Type 0
  BeginsHistory name h (Closed disk) = HoldsOnly view (λ i. StandsFor dig i name h) disk
  BeginsHistory name h (Open service) = (h.name ≡ name) × Serves dig view service h

-- a service that is open tells the thread of its head at any time
abbrev pub ShowsHead : {D H : Type 0} {g : _} {k : _} → Service D H g k → Thread → Type 0
ShowsHead service t = t ≡ head_thread service

-- besides, a call publishes what stands in its answer; of what is told without the disk the head alone counts, which is shown anyway
abbrev pub TellsThread : (dig : List ℕ → List ℕ) → ServiceAct → Thread → Type 0
TellsThread dig (Answered call (Ok reply)) t = PublishesBy dig call reply t
TellsThread dig _ t = ⊥

-- the thread is published in the run
abbrev pub IsServicePublished : {D H : Type 0} {g : _} {k : _} → (dig : List ℕ → List ℕ) → (start : State D (Service D H g k)) → List (Happening D (Service D H g k) ServiceAct) → Thread → Type 0
IsServicePublished dig start run t = runs.IsPublished ShowsHead (TellsThread dig) start run t

module _ {D : Type 0} (dig : List ℕ → List ℕ) (view : D → DiskView) (name : List ℕ) (first : History) (Published : Thread → Type 0) where
  -- the thread is one of the history that was there first, or published since
  abbrev pub IsKnown : Thread → Type 0
  IsKnown t = IsThreadOf dig first t ⊎ Published t

  -- the image stands for a history of the name that has all of these
  abbrev pub HasAllKnown : Image → Type 0
  HasAllKnown image = (h : History) × StandsFor dig image name h × ((t : Thread) → IsKnown t → IsThreadOf dig h t)

  -- of each step there is one of them at most; and what this disk reads as, and each image that a crash may leave of it, stands for a history
  -- that has all
  pub record HasOneAuthenticator (last : D) : Type 0 where
    pub one : (t u : Thread) → IsKnown t → IsKnown u → t.step ≡ u.step → t ≡ u
    pub at_end : HoldsOnly view HasAllKnown last
