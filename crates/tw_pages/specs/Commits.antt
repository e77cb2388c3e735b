-- What a call that may commit makes of a store at rest with a record and pages, whatever these keep.
use Rattle.std.specs.Prelude.{◌≡◌, ◌⊎◌, Result, IfErr, IfOk}
use Rattle.tw_disk.specs.Disk.{DiskView, LeavesOnly, Reads}
use Rattle.tw_disk.specs.Image.{Image}
use Rattle.tw_pages.specs.StoreValue.{store_disk}
use Rattle.tw_pages.specs.declared.store.Store.{Store}
use Rattle.tw_pages.specs.Records.{IsOneOf, IsWritten, RecordKind, Written, written_record}
use Rattle.tw_pages.specs.Rests.{RestsWith}

-- The store was at rest with this record and these pages. They stay, or there are a next record and pages; each image that a crash since may
-- leave opens with the one or with the other, and so does the content, which is told still, after a disk fault too. After an answer the store is
-- at rest with the latter, as is right for the answer; after a refusal but a disk fault it is at rest as before, and each image opens so.
pub record Commits {D R X E : Type 0} {g : _} (view : D → DiskView) (kind : RecordKind R) (disk_fault : E) (IsNext : (w next : Written R) → Type 0)
    (IsAnswer : X → (w next : Written R) → Type 0) (old new : Store D g) (before after : R) (result : Result X E) (ps : Image) : Type 0 where
  pub next : Written R
  pub is_next : (next ≡ written_record before ps) ⊎ IsNext (written_record before ps) next
  pub any_moment : LeavesOnly (view (store_disk old)) (view (store_disk new)) (IsOneOf kind (written_record before ps) next)
  pub told : Reads (view (store_disk new)) (IsOneOf kind (written_record before ps) next)
  pub done : IfOk result (λ x. IsAnswer x (written_record before ps) next × (after ≡ next.root) × RestsWith view kind new next)
  pub refused : IfErr result (λ e. (e ≡ disk_fault)
      ⊎ (RestsWith view kind new (written_record before ps) × LeavesOnly (view (store_disk old)) (view (store_disk new)) (IsWritten kind (written_record before ps))))
