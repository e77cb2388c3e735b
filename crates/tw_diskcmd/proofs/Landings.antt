-- From the work on a disk to what the command comes to, and what it leaves.
use Rattle.std.proofs.Common.{◌≡◌, ◌∙◌, ℕ, List, refl, ap, sym, subst, inl, inr, ◌⊎◌}
use Rattle.std.specs.Prelude.{Option, Some, Result, Ok, Err, ◌≢◌}
use Rattle.tw_base.specs.declared.history.thread.Thread.{Thread}
use Rattle.tw_base.specs.kinds.Faults.{Rose}
use Rattle.tw_disk.specs.Disk.{DiskView, LeavesOnly}
use Rattle.tw_disk.specs.Image.{Image}
use Rattle.tw_pages.specs.Disks.{BeginsState, IsLeft, IsOldOrBegun, MayBegin, RestsAtState}
use Rattle.tw_pages.specs.Records.{IsWritten, RecordKind, Written}
use Rattle.tw_pages.proofs.AtRest.{no_call_left, rests_begun}
use Rattle.tw_outside.specs.Asked.{Asked}
use Rattle.tw_pages.specs.Slots.{IsTaken}
use Rattle.tw_pages.specs.declared.open.StoreFault.{StoreFault}
use Rattle.tw_pages.specs.declared.open.StoreFault.TheVariants as store
use Rattle.tw_text.specs.declared.refusal.StoreCause.{StoreCause}
use Rattle.tw_text.specs.declared.refusal.StoreCause.TheVariants.{Blank, NotAStore}
use Rattle.tw_text.specs.declared.fault.CommandFault.{CommandFault}
use Rattle.tw_text.specs.declared.fault.CommandFault.TheVariants.{Taken, Refused, NotFollowed, Unserved, Unreadable}
use Rattle.tw_text.specs.declared.fault.CommandFault.TheVariants.{InputFault, DiskFault, NoMemory}
use Rattle.tw_diskcmd.specs.Comes.{DiskComes, FoundDisk, MakeComes, TellsContent, found_disk}
use Rattle.tw_diskcmd.specs.StoreFaults.{fault_of_store}
use Rattle.tw_diskcmd.specs.Files.{FileComes, StopsAt}
use Rattle.tw_diskcmd.specs.Leaves.{MakeLeaves, MakeSafe, ReadLeaves, SettlesStore, SparesOtherStore, WriteLeaves}
use Rattle.tw_diskcmd.specs.Leaves.{WritesNothing}
use Rattle.tw_diskcmd.specs.Steps.{AddsTo}
use Rattle.tw_diskcmd.proofs.StoreAtRest.{free_keeps, held_keeps}

-- ---- what it comes to

-- a result that tells of the disk's content is one of those
pub told_result : {X : Type 0} (Is : Option Image → Result X CommandFault → Type 0) (t : FoundDisk)
    (r : Result X CommandFault) → TellsContent r → DiskComes Is t r → Is t.found r
told_result Is t (Ok x) tells is = is
told_result Is t (Err Taken) tells is = is
told_result Is t (Err (Refused refusal)) tells is = is
told_result Is t (Err (NotFollowed refusal)) tells is = is
told_result Is t (Err (Unserved cause)) tells is = is
told_result Is t (Err DiskFault) tells is = absurd tells
told_result Is t (Err NoMemory) tells is = absurd tells
told_result Is t _ tells is = absurd is

-- what a command does that adds to a store what a file holds: what the file may hold, and from which byte on it holds none; what that comes
-- to; which state, and which record and pages, are next; and how an answer tells of them
pub record Addition (R S T X : Type 0) : Type 1 where
  pub Has : T → Type 0
  pub IsBadByte : (bytes : List ℕ) (place : ℕ) → Type 0
  pub Is : T → Option Image → Result X CommandFault → Type 0
  pub Next : T → (s next : S) → Type 0
  pub NextRecord : T → (w next : Written R) → Type 0
  pub Answers : T → X → (s next : S) → Type 0
  pub AnswersRecord : T → X → (w next : Written R) → Type 0

module _ {R S T X D : Type 0} (w : Addition R S T X) (a : Asked) (file : List ℕ) (view : D → DiskView) (old new : D) where
  abbrev Comes : Result X CommandFault → Type 0
  Comes came = FileComes a file w.IsBadByte w.Has w.Is
      (found_disk (view old).content (view old).faults (view new).faults) came

  -- the work with what the file holds
  pub comes_of_file : (x : T) (came : Result X CommandFault) → w.Has x
      → DiskComes (w.Is x) (found_disk (view old).content (view old).faults (view new).faults) came → Comes came
  comes_of_file x (Ok value) has comes = (x, has, comes)
  comes_of_file x (Err Taken) has comes = (x, has, comes)
  comes_of_file x (Err (Refused refusal)) has comes = (x, has, comes)
  comes_of_file x (Err (NotFollowed refusal)) has comes = (x, has, comes)
  comes_of_file x (Err (Unserved cause)) has comes = (x, has, comes)
  comes_of_file x (Err DiskFault) has comes = (x, has, comes)
  comes_of_file x (Err NoMemory) has comes = tt
  comes_of_file x _ has comes = absurd comes

  -- a stop before it
  pub stopped_comes : (came : CommandFault) → StopsAt a file w.IsBadByte came → Comes (Err came)
  stopped_comes (Unreadable bad) stops = stops
  stopped_comes InputFault stops = stops
  stopped_comes NoMemory stops = stops
  stopped_comes _ stops = absurd stops

-- a store that isn't opened, for a reason that its content tells, or since the disk failed
module _ (Comes : CommandFault → Type 0) (IsNotOpened : Image → StoreFault → Type 0) (found : Option Image) where
  by_content : (image : Image) (f : StoreFault) → f ≢ store.DiskFault → (f ≡ store.DiskFault) ⊎ IsNotOpened image f
      → IsNotOpened image f
  by_content image f other (inl is) = absurd (other is)
  by_content image f other (inr none) = none

  pub unopened_tells : (f : StoreFault) → ((cause : StoreCause) → fault_of_store f ≡ Unserved cause
      → ((image : Image) → found ≡ Some image → IsNotOpened image f) → Comes (Unserved cause))
      → ((image : Image) → found ≡ Some image → (f ≡ store.DiskFault) ⊎ IsNotOpened image f)
      → (f ≢ store.Taken) × (f ≢ store.NoMemory) → (f ≡ store.DiskFault → Comes DiskFault) → Comes (fault_of_store f)
  unopened_tells store.Taken tells why never failed = absurd (never.0 refl)
  unopened_tells store.NoMemory tells why never failed = absurd (never.1 refl)
  unopened_tells store.DiskFault tells why never failed = failed refl
  unopened_tells store.Blank tells why never failed =
      tells Blank refl (λ image told. by_content image store.Blank (λ is. cc) (why image told))
  unopened_tells (store.NotAStore slot) tells why never failed =
      tells (NotAStore slot) refl (λ image told. by_content image (store.NotAStore slot) (λ is. cc) (why image told))

-- a store that isn't made: only where there is one, or where the disk failed
pub unmade : (t : FoundDisk) (new : Thread) (f : StoreFault) (came : CommandFault) → came ≡ fault_of_store f
    → (f ≡ store.Taken) ⊎ (f ≡ store.DiskFault)
    → (f ≡ store.Taken → (image : Image) → t.found ≡ Some image → IsTaken image)
    → (f ≡ store.DiskFault → Rose t.before t.after) → MakeComes t new (Err came)
unmade t new f came is (inl taken) has fault = subst (λ (c : CommandFault). MakeComes t new (Err c))
    (sym (is ∙ ap fault_of_store taken)) (has taken)
unmade t new f came is (inr failed) has fault = subst (λ (c : CommandFault). MakeComes t new (Err c))
    (sym (is ∙ ap fault_of_store failed)) (fault failed)

-- ---- what it leaves

module _ {R S D : Type 0} (kind : RecordKind R) (IsOf : S → Image → Type 0) (view : D → DiskView) where
  module _ (old new : D) where
    -- a command that only reads leaves a disk that settles, or that wasn't opened
    pub leaves_of_reading : {X : Type 0} → (came : Result X CommandFault) → IsLeft view old new → SettlesStore kind IsOf
        view old new → ReadLeaves kind IsOf view old new came
    leaves_of_reading (Ok value) left settles = (left, settles)
    leaves_of_reading (Err Taken) left settles = (left, settles)
    leaves_of_reading (Err (Refused refusal)) left settles = (left, settles)
    leaves_of_reading (Err (NotFollowed refusal)) left settles = (left, settles)
    leaves_of_reading _ left settles = left

    pub unopened_reading_leaves : (X : Type 0) (f : StoreFault) (came : CommandFault) → came ≡ fault_of_store f
        → f ≢ store.Taken → IsLeft view old new
        → ReadLeaves kind IsOf view old new {X = X} (Err came)
    unopened_reading_leaves X f came is not_taken left = subst (λ (c : CommandFault). ReadLeaves kind IsOf view old new
        {X = X} (Err c)) (sym is) (by f not_taken)
      where
        by : (g : StoreFault) → g ≢ store.Taken → ReadLeaves kind IsOf view old new {X = X} (Err (fault_of_store g))
        by store.Taken not_taken = absurd (not_taken refl)
        by store.Blank not_taken = left
        by (store.NotAStore slot) not_taken = left
        by store.DiskFault not_taken = left
        by store.NoMemory not_taken = left

    -- of one that makes a store, whose images have one each
    module _ (as_it_reads : (d : D) (image : Image) → (view d).content ≡ Some image → (view d).may_leave image)
        (taken : (s : S) (image : Image) → IsOf s image → IsTaken image) (first : S) where
      -- the store is made, on the disk that it gives back
      pub made_leaves : (mid : D) → new ≡ mid
          → ((image : Image) → (view old).content ≡ Some image → RestsAtState IsOf view new first)
          → ((image : Image) → (view old).content ≡ Some image → LeavesOnly (view old) (view mid)
          (IsOldOrBegun IsOf view first old))
          → ((image : Image) → (view old).content ≡ Some image → IsTaken image → ⊥)
          → BeginsState IsOf view first old new × MakeSafe kind IsOf view old new first
      made_leaves mid closed rests any_moment free = (
        (begins, rests),
        (
          begins,
          free_keeps kind IsOf view as_it_reads taken old new free,
          λ image told is. absurd (free image told is),
        ),
      )
        where
          begins : MayBegin IsOf view first old new
          begins = λ image told. (
            subst (λ now. LeavesOnly (view old) (view now) (IsOldOrBegun IsOf view first old)) (sym closed)
                (any_moment image told),
            rests_begun IsOf view as_it_reads old new first (rests image told),
          )

      -- it isn't
      pub unmade_leaves : (X : Type 0) (f : StoreFault) (came : CommandFault) → came ≡ fault_of_store f
          → (f ≡ store.Taken) ⊎ (f ≡ store.DiskFault) → (f ≡ store.Taken → IsLeft view old new)
          → MayBegin IsOf view first old new
          → ((image : Image) → (view old).content ≡ Some image → IsTaken image → ((view new).content ≡ Some image)
          × LeavesOnly (view old) (view new) (view old).may_leave)
          → MakeLeaves kind IsOf view old new {X = X} first (Err came)
      unmade_leaves X f came is which left begins held =
          subst (λ (c : CommandFault). MakeLeaves kind IsOf view old new {X = X} first (Err c)) (sym is) (by which)
        where
          by : (f ≡ store.Taken) ⊎ (f ≡ store.DiskFault)
              → MakeLeaves kind IsOf view old new {X = X} first (Err (fault_of_store f))
          by (inl is_taken) = subst (λ (g : StoreFault). MakeLeaves kind IsOf view old new {X = X} first
              (Err (fault_of_store g))) (sym is_taken) (left is_taken)
          by (inr failed) = subst (λ (g : StoreFault). MakeLeaves kind IsOf view old new {X = X} first
              (Err (fault_of_store g))) (sym failed) (
                begins,
                held_keeps kind IsOf view as_it_reads taken old new held,
                λ image told is. let both = held image told is in (both.0 ∙ sym told, both.1),
              )

  module _ {T X : Type 0} (w : Addition R S T X) where
    abbrev pub Leaves : (old new : D) → Result X CommandFault → Type 0
    Leaves old new came =
        WriteLeaves kind IsOf view old new w.Has w.Next w.NextRecord w.Is w.Answers w.AnswersRecord came

    -- the work with what the file holds
    pub leaves_of_file : (old new : D) (x : T) (came : Result X CommandFault) → w.Has x
        → DiskComes (w.Is x) (found_disk (view old).content (view old).faults (view new).faults) came
        → AddsTo IsOf view old new (w.Next x) (w.Answers x) came
        → AddsTo (IsWritten kind) view old new (w.NextRecord x) (w.AnswersRecord x) came
        → (WritesNothing came → IsLeft view old new) → SparesOtherStore kind IsOf view old new → Leaves old new came
    leaves_of_file old new x (Ok value) has comes adds writes nothing spares =
        ((x, has, (comes, adds, writes)), spares)
    leaves_of_file old new x (Err DiskFault) has comes adds writes nothing spares =
        ((x, has, (adds, writes)), spares)
    leaves_of_file old new x (Err Taken) has comes adds writes nothing spares =
        (nothing tt, (adds, writes))
    leaves_of_file old new x (Err (Refused refusal)) has comes adds writes nothing spares =
        (nothing tt, (adds, writes))
    leaves_of_file old new x (Err (NotFollowed refusal)) has comes adds writes nothing spares =
        (nothing tt, (adds, writes))
    leaves_of_file old new x (Err (Unserved cause)) has comes adds writes nothing spares = nothing tt
    leaves_of_file old new x (Err NoMemory) has comes adds writes nothing spares = nothing tt
    leaves_of_file old new x _ has comes adds writes nothing spares = absurd comes

    -- a stop before it: the disk wasn't touched
    pub stop_leaves : (only_now : (d : D) (image : Image) → (view d).left_since (view d).moment image
        → (view d).may_leave image) (a : Asked) (file : List ℕ) (disk : D) (came : CommandFault)
        → StopsAt a file w.IsBadByte came → Leaves disk disk (Err came)
    stop_leaves only_now a file disk (Unreadable bad) stops = refl
    stop_leaves only_now a file disk InputFault stops = refl
    stop_leaves only_now a file disk NoMemory stops = no_call_left view disk (only_now disk)
    stop_leaves only_now a file disk _ stops = absurd stops
