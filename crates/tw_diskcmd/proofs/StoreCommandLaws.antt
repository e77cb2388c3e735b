-- What holds of each command over a store's disk: each of its faults has its cause, and whatever it leaves is safe.
use Rattle.std.proofs.Common.{◌≡◌, ℕ, List}
use Rattle.std.specs.Prelude.{Option, Some, Result, Ok, Err}
use Rattle.tw_base.specs.declared.history.thread.Thread.{Thread}
use Rattle.tw_base.specs.kinds.Faults.{Rose}
use Rattle.tw_disk.specs.Disk.{DiskView}
use Rattle.tw_disk.specs.Image.{Image}
use Rattle.tw_pages.specs.Disks.{IsLeft, ReadsAsState}
use Rattle.tw_pages.specs.Records.{IsWritten, RecordKind, Written}
use Rattle.tw_pages.proofs.AtRest.{adds_safe, keeps_or_adds_safe, left_adds, left_begins, untouched_left}
use Rattle.tw_outside.specs.Asked.{Asked}
use Rattle.tw_text.specs.declared.refusal.StoreCause.{StoreCause}
use Rattle.tw_text.specs.declared.fault.CommandFault.{CommandFault}
use Rattle.tw_text.specs.declared.fault.CommandFault.TheVariants.{Taken, Refused, NotFollowed, Unserved, Unreadable}
use Rattle.tw_text.specs.declared.fault.CommandFault.TheVariants.{InputFault, DiskFault, NoMemory}
use Rattle.tw_diskcmd.specs.Comes.{FoundDisk, MakeComes}
use Rattle.tw_diskcmd.specs.Files.{FileComes}
use Rattle.tw_diskcmd.specs.Leaves.{MakeLeaves, MakeSafe, ReadLeaves, ReadSafe, WriteLeaves, WriteSafe, WritesNothing}
use Rattle.tw_diskcmd.proofs.StoreAtRest.{left_keeps}
use Rattle.tw_diskcmd.proofs.StoreSteps.{adds_weaker}

-- ---- what it comes to

-- the inputs fail only where the command names a file, and the disk only where it uses one; a disk that reads as a
-- state of its store serves it,
-- and want of memory is free
pub record HasCauses {S X : Type 0} (IsOf : S → Image → Type 0) (a : Asked) (t : FoundDisk)
    (NamesFile UsesDisk : Type 0) (Comes : Result X CommandFault → Type 0) : Type 0 where
  pub input : Comes (Err InputFault) → NamesFile × Rose a.before a.after
  pub disk : Comes (Err DiskFault) → UsesDisk × Rose t.before t.after
  pub serves : (s : S) → ReadsAsState IsOf t.found s → (why : StoreCause) → Comes (Err (Unserved why)) → ⊥
  pub memory : Comes (Err NoMemory)

module _ {S : Type 0} (IsOf : S → Image → Type 0) (a : Asked) (t : FoundDisk) where
  pub make_causes : (new : Thread) → HasCauses IsOf a t ⊥ (Unit {0}) (MakeComes t new)
  make_causes new =
      record { input = λ came. absurd came; disk = λ rose. (tt, rose); serves = λ s reads why came. came; memory = tt }

  pub file_causes : {T X : Type 0} (file : List ℕ) (IsBadByte : (bytes : List ℕ) (place : ℕ) → Type 0)
      (Has : T → Type 0) (Is : T → Option Image → Result X CommandFault → Type 0)
      → ((x : T) (s : S) → ReadsAsState IsOf t.found s → (why : StoreCause) → Is x t.found (Err (Unserved why)) → ⊥)
      → HasCauses IsOf a t (Unit {0}) (Unit {0}) (FileComes a file IsBadByte Has Is t)
  file_causes file IsBadByte Has Is serves = record {
    input = λ rose. (tt, rose);
    disk = λ came. (tt, came.2);
    serves = λ s reads why came. serves came.0 s reads why came.2;
    memory = tt;
  }

-- ---- what it leaves

module _ {D : Type 0} (view : D → DiskView) (old new : D) where
  -- where nothing was made and no disk failed, nothing was written, which is right for want of memory too; and a crash
  -- leaves what it may
  pub record IsSafe {X : Type 0} (Leaves : Result X CommandFault → Type 0) (Safe : Type 0) : Type 0 where
    pub idle : (r : Result X CommandFault) → Leaves r → WritesNothing r → IsLeft view old new
    pub no_memory : IsLeft view old new → Leaves (Err NoMemory)
    pub safe : (r : Result X CommandFault) → Leaves r → Safe

module _ {R S D : Type 0} (kind : RecordKind R) (IsOf : S → Image → Type 0) (view : D → DiskView) (old new : D) where
  read_left : {X : Type 0} → (came : Result X CommandFault) → ReadLeaves kind IsOf view old new came
      → IsLeft view old new
  read_left (Ok value) left = left.0
  read_left (Err Taken) left = left.0
  read_left (Err (Refused refusal)) left = left.0
  read_left (Err (NotFollowed refusal)) left = left.0
  read_left _ left = left

  pub reading_is_safe : {X : Type 0} → IsSafe view old new {X = X} (ReadLeaves kind IsOf view old new)
      (ReadSafe kind IsOf view old new)
  reading_is_safe = record {
    idle = λ r left nothing. read_left r left;
    no_memory = λ left. left;
    safe = λ r leaves. let left = read_left r leaves in (left, left_keeps kind IsOf view old new left);
  }

  module _ (as_it_reads : (d : D) (image : Image) → (view d).content ≡ Some image → (view d).may_leave image) where
    left_safe : (first : S) → IsLeft view old new → MakeSafe kind IsOf view old new first
    left_safe first left = (
      left_begins IsOf view as_it_reads old new first left,
      left_keeps kind IsOf view old new left,
      λ image told taken. left,
    )

    make_safe : {X : Type 0} → (first : S) (came : Result X CommandFault) → MakeLeaves kind IsOf view old new first came
        → MakeSafe kind IsOf view old new first
    make_safe first (Ok value) left = left.1
    make_safe first (Err DiskFault) left = left
    make_safe first _ left = left_safe first left

    pub making_is_safe : {X : Type 0} → (first : S) → IsSafe view old new {X = X}
        (MakeLeaves kind IsOf view old new first) (MakeSafe kind IsOf view old new first)
    making_is_safe {X} first = record { idle = idle; no_memory = λ left. left; safe = make_safe first }
      where
        idle : (r : Result X CommandFault) → MakeLeaves kind IsOf view old new first r → WritesNothing r
            → IsLeft view old new
        idle (Ok value) left nothing = absurd nothing
        idle (Err DiskFault) left nothing = absurd nothing
        idle _ left nothing = left

    module _ (only_now : (d : D) (image : Image) → (view d).left_since (view d).moment image → (view d).may_leave image)
        {T X : Type 0} (Has : T → Type 0) (Next : T → (s next : S) → Type 0)
        (NextRecord : T → (w next : Written R) → Type 0) (Is : T → Option Image → Result X CommandFault → Type 0)
        (Answers : T → X → (s next : S) → Type 0) (AnswersRecord : T → X → (w next : Written R) → Type 0)
        (widens : (t : T) (x : X) (s next : S) → Answers t x s next → Next t s next)
        (widens_record : (t : T) (x : X) (w next : Written R) → AnswersRecord t x w next → NextRecord t w next) where
      abbrev Leaves : Result X CommandFault → Type 0
      Leaves came = WriteLeaves kind IsOf view old new Has Next NextRecord Is Answers AnswersRecord came

      abbrev Safe : Type 0
      Safe = WriteSafe kind IsOf view old new Has Next NextRecord

      left_writes : IsLeft view old new → Safe
      left_writes left = (
        λ image why told not. left,
        left_adds IsOf view Has Next old new left,
        left_adds (IsWritten kind) view Has NextRecord old new left,
      )

      write_safe : (came : Result X CommandFault) → Leaves came → Safe
      write_safe (Ok x) left =
          let t = left.0.0 in (
            left.1,
            adds_safe IsOf view as_it_reads Has Next old new t left.0.1 (adds_weaker IsOf view (Answers t x) (Next t)
                (widens t x) old new left.0.2.1),
            adds_safe (IsWritten kind) view as_it_reads Has NextRecord old new t left.0.1
                (adds_weaker (IsWritten kind) view (AnswersRecord t x) (NextRecord t) (widens_record t x) old new
                left.0.2.2),
          )
      write_safe (Err DiskFault) left = (
        left.1,
        keeps_or_adds_safe IsOf view as_it_reads Has Next old new left.0.0 left.0.1 left.0.2.0,
        keeps_or_adds_safe (IsWritten kind) view as_it_reads Has NextRecord old new left.0.0 left.0.1 left.0.2.1,
      )
      write_safe (Err Taken) left = left_writes left.0
      write_safe (Err (Refused refusal)) left = left_writes left.0
      write_safe (Err (NotFollowed refusal)) left = left_writes left.0
      write_safe (Err (Unreadable bad)) left = left_writes (untouched_left view old new only_now left)
      write_safe (Err InputFault) left = left_writes (untouched_left view old new only_now left)
      write_safe _ left = left_writes left

      pub writing_is_safe : IsSafe view old new Leaves Safe
      writing_is_safe = record { idle = idle; no_memory = λ left. left; safe = write_safe }
        where
          idle : (r : Result X CommandFault) → Leaves r → WritesNothing r → IsLeft view old new
          idle (Ok x) left nothing = absurd nothing
          idle (Err DiskFault) left nothing = absurd nothing
          idle (Err Taken) left nothing = left.0
          idle (Err (Refused refusal)) left nothing = left.0
          idle (Err (NotFollowed refusal)) left nothing = left.0
          idle (Err (Unreadable bad)) left nothing = untouched_left view old new only_now left
          idle (Err InputFault) left nothing = untouched_left view old new only_now left
          idle _ left nothing = left
