-- The history that a service value serves.
use Rattle.std.specs.Prelude.{ℕ, List, Bool, Option}
use Rattle.tw_base.specs.declared.history.root.Root.{Root}
use Rattle.tw_base.specs.declared.history.thread.Thread.{Thread}
use Rattle.tw_base.specs.history.History.{History}
use Rattle.tw_disk.specs.Image.{Image}
use Rattle.tw_disk.specs.Disk.{DiskView}
use Rattle.tw_pages.specs.Records.{written_record}
use Rattle.tw_pages.specs.Rests.{RestsWith}
use Rattle.tw_pages.specs.StoreValue.{store_disk}
use Rattle.tw_pages.specs.Same.{IsSameStore, store_list}
use Rattle.tw_skiplist.specs.declared.head.Head.{Head}
use Rattle.tw_answers.specs.declared.root.RootRecord.{RootRecord}
use Rattle.tw_answers.specs.Roots.{root_kind}
use Rattle.tw_service.specs.declared.service.Service.{Service}
use Rattle.tw_service.specs.Keeps.{StoreServes}

-- the disk that it is over
abbrev pub disk_of : {D H : Type 0} {g : _} {k : _} → Service D H g k → D
disk_of service = store_disk service.recorded.kept.store

-- its root record
abbrev pub record_of : {D H : Type 0} {g : _} {k : _} → Service D H g k → RootRecord
record_of service = service.recorded.kept.root

-- its name, its head, the number of its steps, and the thread of its last step
abbrev pub name_of : {D H : Type 0} {g : _} {k : _} → Service D H g k → List ℕ
name_of service = service.recorded.kept.root.name

abbrev pub head_of : {D H : Type 0} {g : _} {k : _} → Service D H g k → Head
head_of service = service.recorded.kept.root.head

abbrev pub steps_of : {D H : Type 0} {g : _} {k : _} → Service D H g k → ℕ
steps_of service = service.recorded.kept.root.head.step

abbrev pub head_thread : {D H : Type 0} {g : _} {k : _} → Service D H g k → Thread
head_thread service = record { from = service.recorded.kept.root.name; step = service.recorded.kept.root.head.step; auth = service.recorded.kept.root.head.auth }

-- the archive after the last step, and how many threads were received, as the root record tells them
abbrev pub archive_of : {D H : Type 0} {g : _} {k : _} → Service D H g k → Root
archive_of service = service.recorded.kept.root.archive

abbrev pub threads_of : {D H : Type 0} {g : _} {k : _} → Service D H g k → ℕ
threads_of service = service.recorded.kept.root.threads

-- the greatest time of its steps, where one has a time, as the root record tells it
abbrev pub clock_of : {D H : Type 0} {g : _} {k : _} → Service D H g k → Option ℕ
clock_of service = service.recorded.kept.root.time

-- its pages, from number 4 on, where its disk tells its content: those of the last commit, since nothing is staged between calls
abbrev pub pages_of : {D H : Type 0} {g : _} {k : _} → (view : D → DiskView) → Service D H g k → Option Image
pages_of view service = store_list view service.recorded.kept.store

-- an earlier call on this value met a disk fault
abbrev pub has_failed : {D H : Type 0} {g : _} {k : _} → Service D H g k → Bool
has_failed service = service.is_broken

-- the value is over a disk at rest, which opens with its record and these pages, whatever they keep
abbrev pub IsOver : {D H : Type 0} {g : _} {k : _} → (view : D → DiskView) → Service D H g k → Image → Type 0
IsOver view service pages = RestsWith view root_kind service.recorded.kept.store (written_record service.recorded.kept.root pages)

-- and they keep this history, which the value serves so
abbrev pub Serves : {D H : Type 0} {g : _} {k : _} → (dig : List ℕ → List ℕ) (view : D → DiskView) → Service D H g k → History → Type 0
Serves dig view service h = StoreServes dig view service.recorded.kept.store service.recorded.kept.root h

-- the later value's store is over a disk that holds and may leave the same
abbrev pub HasSameDisk : {D H : Type 0} {g : _} {k : _} (view : D → DiskView) (old new : Service D H g k) → Type 0
HasSameDisk view old new = IsSameStore view old.recorded.kept.store new.recorded.kept.store
