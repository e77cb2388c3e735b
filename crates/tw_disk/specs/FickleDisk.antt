-- What a disk shows whose reads contradict each other.
use Rattle.std.specs.Prelude.{◌≡◌, ℕ, [], Bool, false, None}
use Rattle.tw_disk.specs.Disk.{DiskView}
use Rattle.tw_disk.specs.MemDisk.{failing_reads_of, is_stopped, mem_disk_view}
use Rattle.tw_disk.specs.declared.fickle_disk.FickleDisk.{FickleDisk}
use Rattle.tw_disk.specs.declared.memory_disk.MemDisk.{MemDisk}

-- the disk in memory that has the pages
abbrev pub disk_under : FickleDisk → MemDisk
disk_under disk = disk.inner

-- how many reads more give the page that is asked
abbrev pub honest_reads : FickleDisk → ℕ
honest_reads disk = disk.honest

-- All that it tells of itself: the page count and the faults of the disk under it, and no content. So it tells no image either.
abbrev pub fickle_disk_view : FickleDisk → DiskView
fickle_disk_view disk = record {
  content = None;
  count = (mem_disk_view disk.inner).count;
  may_leave = λ _. ⊥;
  moment = 0;
  left_since = λ _ _. ⊥;
  faults = (mem_disk_view disk.inner).faults;
}

-- no call of pages or read is to fail on the disk under it, and it isn't stopped
pub record GivesAll (disk : FickleDisk) : Type 0 where
  pub none_fails : failing_reads_of disk.inner ≡ []
  pub runs : is_stopped disk.inner ≡ false
