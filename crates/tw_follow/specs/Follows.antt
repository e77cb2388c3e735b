-- The list of heads that a follower keeps.
use Rattle.std.specs.Prelude.{◌≡◌, ℕ, List, Bool, Option}
use Rattle.tw_base.specs.declared.history.thread.Thread.{Thread}
use Rattle.tw_disk.specs.Disk.{DiskView}
use Rattle.tw_disk.specs.Image.{Image}
use Rattle.tw_pages.specs.StoreValue.{store_disk}
use Rattle.tw_pages.specs.Same.{IsSameStore, store_list}
use Rattle.tw_pages.specs.Records.{written_record}
use Rattle.tw_pages.specs.Rests.{RestsWith}
use Rattle.tw_pages.specs.States.{ServesState}
use Rattle.tw_follow.specs.declared.follower.Follower.{Follower}
use Rattle.tw_follow.specs.declared.root.RootRecord.{RootRecord}
use Rattle.tw_follow.specs.HeadLists.{Kept}
use Rattle.tw_follow.specs.Stands.{KeepsList, root_kind}

-- the disk that it is over
abbrev pub disk_of : {D H : Type 0} {g : _} {k : _} → Follower D H g k → D
disk_of follower = store_disk follower.recorded.store

-- its root record, and the head that this tells
abbrev pub record_of : {D H : Type 0} {g : _} {k : _} → Follower D H g k → RootRecord
record_of follower = follower.recorded.root

abbrev pub head_of : {D H : Type 0} {g : _} {k : _} → Follower D H g k → Thread
head_of follower = follower.recorded.root.head

-- its pages, from number 4 on, where its disk tells its content
abbrev pub pages_of : {D H : Type 0} {g : _} {k : _} → (view : D → DiskView) → Follower D H g k → Option Image
pages_of view follower = store_list view follower.recorded.store

-- an earlier call on this follower met a disk fault
abbrev pub has_failed : {D H : Type 0} {g : _} {k : _} → Follower D H g k → Bool
has_failed follower = follower.is_broken

-- the follower is over a disk at rest, which opens with its record and these pages, whatever they keep
abbrev pub IsOver : {D H : Type 0} {g : _} {k : _} → (dig : List ℕ → List ℕ) (view : D → DiskView) → Follower D H g k → Image → Type 0
IsOver dig view follower pages = RestsWith view (root_kind dig) follower.recorded.store (written_record follower.recorded.root pages)

-- and they keep this list
abbrev pub Follows : {D H : Type 0} {g : _} {k : _} → (dig : List ℕ → List ℕ) (view : D → DiskView) → Follower D H g k → Kept → Type 0
Follows dig view follower kept = ServesState (root_kind dig) KeepsList view follower.recorded.store follower.recorded.root kept

-- the later follower's store is over a disk that holds and may leave the same
abbrev pub HasSameDisk : {D H : Type 0} {g : _} {k : _} (view : D → DiskView) (old new : Follower D H g k) → Type 0
HasSameDisk view old new = IsSameStore view old.recorded.store new.recorded.store
