-- A commit, since before its pages were staged.
use Rattle.std.proofs.Common.{◌≡◌, ℕ, ◌+◌, List, inl}
use Rattle.std.specs.Prelude.{Some}
use Rattle.tw_disk.specs.Image.{Image}
use Rattle.tw_disk.specs.Disk.{DiskView, LeavesOnly, Reads}
use Rattle.tw_pages.specs.StoreValue.{store_disk}
use Rattle.tw_pages.specs.Same.{IsSameStore, store_count, store_list}
use Rattle.tw_pages.specs.declared.store.Store.{Store}
use Rattle.tw_pages.specs.Records.{IsOneOf, RecordKind, Written, written_record}
use Rattle.tw_pages.specs.Rests.{RestsWith}
use Rattle.tw_pages.proofs.Written.{content_written, only_same, since_same, still_rests}

-- pages were staged on a store at rest with this record and these pages, and the next record may stand over all of them
pub record IsStaged {D R : Type 0} {g : _} (view : D → DiskView) (kind : RecordKind R) (old mid : Store D g)
    (root next : R) (ps all : Image) : Type 0 where
  pub same : IsSameStore view old mid
  pub rest : RestsWith view kind old (written_record root ps)
  pub list : store_list view mid ≡ Some all
  pub may : kind.May (store_count mid) (mid.generation + 1) next

module _ {D R : Type 0} {g : _} (view : D → DiskView) (only_now : (d : D) (c : Image)
    → (view d).left_since (view d).moment c → (view d).may_leave c) (kind : RecordKind R)
    (old mid : Store D g) (root next : R) (ps all : Image) (put : IsStaged view kind old mid root next ps all) where
  still : RestsWith view kind mid (written_record root ps)
  still = still_rests view kind old mid (written_record root ps) put.same put.rest

  -- what a clause of the commit says, for these pages
  abbrev OfThese : (Image → Image → Type 0) → Type 0
  OfThese P = (qs some : Image) → RestsWith view kind mid (written_record root qs) → store_list view mid ≡ Some some
      → kind.May (store_count mid) (mid.generation + 1) next → P qs some

  pub of_these : (P : Image → Image → Type 0) → OfThese P → P ps all
  of_these P commit = commit ps all still put.list put.may

  pub leaves_since : (new : Store D g) → OfThese (λ qs some. LeavesOnly (view (store_disk mid)) (view (store_disk new))
      (IsOneOf kind (written_record root qs) (written_record next some)))
      → LeavesOnly (view (store_disk old)) (view (store_disk new))
      (IsOneOf kind (written_record root ps) (written_record next all))
  leaves_since new commit =
      since_same view kind only_now old mid new (written_record root ps)
      (IsOneOf kind (written_record root ps) (written_record next all)) put.same put.rest (λ c is. inl is)
      (of_these (λ qs some. LeavesOnly (view (store_disk mid)) (view (store_disk new))
      (IsOneOf kind (written_record root qs) (written_record next some))) commit)

-- pages were staged, or not, and no commit came
module _ {D R : Type 0} {g : _} (view : D → DiskView) (only_now : (d : D) (c : Image)
    → (view d).left_since (view d).moment c → (view d).may_leave c) (kind : RecordKind R)
    (old mid : Store D g) (w next : Written R) (same : IsSameStore view old mid)
    (rest : RestsWith view kind old w) where
  pub leaves_before : LeavesOnly (view (store_disk old)) (view (store_disk mid)) (IsOneOf kind w next)
  leaves_before = only_same view kind only_now old mid w (IsOneOf kind w next) same rest (λ c is. inl is)

  pub reads_before : Reads (view (store_disk mid)) (IsOneOf kind w next)
  reads_before =
      let now = still_rests view kind old mid w same rest in
      record { image = now.image; told = now.told; has = inl (content_written view kind mid w now) }
