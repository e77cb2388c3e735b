-- Disks at rest, and runs of calls that keep what they stand for and open with.
use Rattle.std.proofs.Common.{◌≡◌, ◌≤◌, ◌<◌, ℕ, arith, subst, inl, inr}
use Rattle.std.proofs.lemmas.Bool.{cases_eq}
use Rattle.std.specs.Prelude.{Some}
use Rattle.tw_base.specs.kinds.Faults.{Rose}
use Rattle.tw_disk.specs.Disk.{DiskView, LeavesOnly}
use Rattle.tw_disk.specs.Image.{Image}
use Rattle.tw_pages.specs.Same.{IsSameStore}
use Rattle.tw_pages.specs.Slots.{IsOpen, IsTaken}
use Rattle.tw_pages.specs.StoreValue.{store_disk}
use Rattle.tw_pages.specs.declared.store.Store.{Store}
use Rattle.tw_pages.specs.Disks.{IsLeft}
use Rattle.tw_pages.specs.Records.{IsWritten, RecordKind, Written}
use Rattle.tw_pages.proofs.AtRest as kept
use Rattle.tw_diskcmd.specs.Leaves.{KeepsStore}

-- a count that rose since a later moment rose since an earlier one
pub rose_since : (before mid after : ℕ) → before ≤ mid → Rose mid after → Rose before after
rose_since before mid after le rose = omega (arith, le, rose)

-- an image that opens as a store with a record has four pages and an open gate
pub opens_taken : {R : Type 0} (kind : RecordKind R) (w : Written R) (image : Image) → IsWritten kind w image
    → IsTaken image
opens_taken kind w image is =
    let opens = is.opens.stands in
    let low : is.opening.slot < 2 = opens.which in (
      omega (arith, opens.room),
      elim (cases_eq is.opening.slot 0) [
        | inl first ↦ inl (subst (λ (slot : ℕ). IsOpen slot image) first opens.gate)
        | inr other ↦ let second : is.opening.slot ≡ 1 = omega arith in
            inr (subst (λ (slot : ℕ). IsOpen slot image) second opens.gate)
      ],
    )

module _ {R S D : Type 0} (kind : RecordKind R) (IsOf : S → Image → Type 0) (view : D → DiskView) where
  pub left_keeps : (old new : D) → IsLeft view old new → KeepsStore kind IsOf view old new
  left_keeps old new left = (kept.left_keeps IsOf view old new left, kept.left_keeps (IsWritten kind) view old new left)

  module _ (as_it_reads : (d : D) (image : Image) → (view d).content ≡ Some image → (view d).may_leave image)
      (taken : (s : S) (image : Image) → IsOf s image → IsTaken image) where
    pub held_keeps : (old new : D)
        → ((image : Image) → (view old).content ≡ Some image → IsTaken image → ((view new).content ≡ Some image)
        × LeavesOnly (view old) (view new) (view old).may_leave)
        → KeepsStore kind IsOf view old new
    held_keeps old new held = (
      kept.held_keeps IsOf view as_it_reads taken old new held,
      kept.held_keeps (IsWritten kind) view as_it_reads (opens_taken kind) old new held,
    )

    pub free_keeps : (old new : D) → ((image : Image) → (view old).content ≡ Some image → IsTaken image → ⊥)
        → KeepsStore kind IsOf view old new
    free_keeps old new free = (
      kept.free_keeps IsOf view as_it_reads taken old new free,
      kept.free_keeps (IsWritten kind) view as_it_reads (opens_taken kind) old new free,
    )

module _ {D : Type 0} {g : _} (view : D → DiskView) where
  -- a call after which the store's disk holds and may leave the same
  pub same_left : (only_now : (d : D) (image : Image) → (view d).left_since (view d).moment image
      → (view d).may_leave image) (old new : Store D g)
      → IsSameStore view old new → IsLeft view (store_disk old) (store_disk new)
  same_left only_now old new same = (
    same.disk.content,
    record {
      later = same.disk.later;
      now = λ c left. (same.disk.images c).0 left;
      each = λ c left. only_now (store_disk old) c
          ((same.disk.images_since (view (store_disk old)).moment c (omega arith)).0 left);
      before = λ t c le left. inl ((same.disk.images_since t c le).0 left);
    },
  )
