-- What commands leave of a store's disk, of whatever kind: of the state that it stands for, and of its record and pages, whatever these keep.
use Rattle.std.specs.Prelude.{◌≡◌, ◌⊎◌, Option, Result, Ok, Err}
use Rattle.tw_disk.specs.Disk.{DiskView}
use Rattle.tw_disk.specs.Image.{Image}
use Rattle.tw_pages.specs.Disks.{Adds, AddsSafe, BeginsState, IsLeft, KeepsOrAdds, MayBegin, SparesStore}
use Rattle.tw_pages.specs.Disks.{KeepsState, Settles as SettlesEach, SparesOther as SparesOthers}
use Rattle.tw_pages.specs.Records.{IsNotOpenedFor, IsWritten, RecordKind, Written}
use Rattle.tw_text.specs.declared.fault.CommandFault.{CommandFault}
use Rattle.tw_text.specs.declared.fault.CommandFault.TheVariants.{Taken, Refused, NotFollowed, Unreadable, InputFault, DiskFault}
use Rattle.tw_diskcmd.specs.Files.{OfFile}

-- the results of a command of which nothing was made and no disk failed
abbrev pub WritesNothing : {X : Type 0} → Result X CommandFault → Type 0
WritesNothing (Ok value) = ⊥
WritesNothing (Err DiskFault) = ⊥
WritesNothing _ = Unit {0}

-- one that was there stays, or this is next
abbrev pub StaysOr : {S : Type 0} → (IsNext : (s next : S) → Type 0) → (s next : S) → Type 0
StaysOr IsNext s next = (next ≡ s) ⊎ IsNext s next

-- of stores with such root records, whose images stand for such states
module _ {R S D : Type 0} (kind : RecordKind R) (IsOf : S → Image → Type 0) (view : D → DiskView) (old new : D) where
  -- the state that the disk stood for stands; and so do the record and pages that it opened with, whatever they keep
  abbrev pub KeepsStore : Type 0
  KeepsStore = KeepsState IsOf view old new × KeepsState (IsWritten kind) view old new

  -- the disk has become stable: it stands for the state, or for whatever record and pages, that it read as, at rest
  abbrev pub SettlesStore : Type 0
  SettlesStore = SettlesEach IsOf view old new × SettlesEach (IsWritten kind) view old new

  -- what is opened as no such store, one of another kind among it, is left so, with writes pending or not
  abbrev pub SparesOtherStore : Type 0
  SparesOtherStore = SparesOthers view (IsNotOpenedFor kind) old new

  -- what a command leaves that only reads: nothing was written, and where it was done or refused, the disk became stable
  abbrev pub ReadLeaves : {X : Type 0} → Result X CommandFault → Type 0
  ReadLeaves (Ok value) = IsLeft view old new × SettlesStore
  ReadLeaves (Err Taken) = IsLeft view old new × SettlesStore
  ReadLeaves (Err (Refused refusal)) = IsLeft view old new × SettlesStore
  ReadLeaves (Err (NotFollowed refusal)) = IsLeft view old new × SettlesStore
  ReadLeaves _ = IsLeft view old new

  abbrev pub ReadSafe : Type 0
  ReadSafe = IsLeft view old new × KeepsStore

  -- Of one that makes a store, which then stands for this first state: each image that a crash may leave is such that there might have been,
  -- a blank one or of the first state; a store that is there is left as it was, and what it keeps is kept.
  abbrev pub MakeSafe : (first : S) → Type 0
  MakeSafe first = MayBegin IsOf view first old new × KeepsStore × SparesStore view old new

  -- the store is made, or a disk fault came and it may be; else the disk is left as it was
  abbrev pub MakeLeaves : {X : Type 0} → (first : S) → Result X CommandFault → Type 0
  MakeLeaves first (Ok value) = BeginsState IsOf view first old new × MakeSafe first
  MakeLeaves first (Err DiskFault) = MakeSafe first
  MakeLeaves first _ = IsLeft view old new

  -- of one that adds to a store what a file holds: this state may be next, and these record and pages
  module _ {T : Type 0} (Has : T → Type 0) (Next : T → (s next : S) → Type 0) (NextRecord : T → (w next : Written R) → Type 0) where
    -- what is opened as no such store is left as it was; state and record are there still, or what the file holds makes the next ones
    abbrev pub WriteSafe : Type 0
    WriteSafe = SparesOtherStore × AddsSafe IsOf view Has Next old new × AddsSafe (IsWritten kind) view Has NextRecord old new

    -- Where the content was told, the next state and record are there as the answer says, or a disk fault came and they may be, of such a
    -- store alone; where the command was refused, nothing was written and the disk became stable; where the file wasn't read or is none,
    -- no device call was made; at every other result nothing was written.
    abbrev pub WriteLeaves : {X : Type 0} → (Is : T → Option Image → Result X CommandFault → Type 0) (Answers : T → X → (s next : S) → Type 0)
        (AnswersRecord : T → X → (w next : Written R) → Type 0) → Result X CommandFault → Type 0
    WriteLeaves Is Answers AnswersRecord (Ok x) =
        OfFile Has (λ t. Is t (view old).content (Ok x) × Adds IsOf view (Answers t x) old new × Adds (IsWritten kind) view (AnswersRecord t x) old new) × SparesOtherStore
    WriteLeaves Is Answers AnswersRecord (Err DiskFault) =
        OfFile Has (λ t. KeepsOrAdds IsOf view (Next t) old new × KeepsOrAdds (IsWritten kind) view (NextRecord t) old new) × SparesOtherStore
    WriteLeaves Is Answers AnswersRecord (Err Taken) = IsLeft view old new × SettlesStore
    WriteLeaves Is Answers AnswersRecord (Err (Refused refusal)) = IsLeft view old new × SettlesStore
    WriteLeaves Is Answers AnswersRecord (Err (NotFollowed refusal)) = IsLeft view old new × SettlesStore
    WriteLeaves Is Answers AnswersRecord (Err (Unreadable bad)) = new ≡ old
    WriteLeaves Is Answers AnswersRecord (Err InputFault) = new ≡ old
    WriteLeaves Is Answers AnswersRecord _ = IsLeft view old new
