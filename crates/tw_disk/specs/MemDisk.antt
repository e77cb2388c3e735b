-- What a disk in memory shows.
use Rattle.std.specs.Prelude.{◌≡◌, ◌+◌, ◌-◌, ℕ, List, Option, Some, Bool, length}
use Rattle.tw_disk.specs.Image.{Image}
use Rattle.tw_disk.specs.Disk.{DiskView}
use Rattle.tw_disk.specs.Model.{DeviceCall, WrittenPage, IsImage, Since}
use Rattle.tw_disk.specs.KeptCalls.{earlier, calls_of, written_of}
use Rattle.tw_disk.specs.declared.memory_disk.MemDisk.{MemDisk}

-- what reads give
abbrev pub pages_of : MemDisk → Image
pages_of disk = disk.pages.items

-- all its writes that took effect and its good barriers since it was made or crashed, each with its bytes
abbrev pub device_calls_of : MemDisk → List DeviceCall
device_calls_of disk = calls_of disk.calls.items disk.pages.items

-- where it stands after them
abbrev pub state_of : MemDisk → WrittenPage
state_of disk = written_of disk.calls.items disk.pages.items

-- All that it tells of itself. It always tells its content. The moment is the number of the writes and barriers that it ever kept, those up
-- to the last crash and those that it keeps; of the time before the last crash it tells no more than what that crash left.
abbrev pub mem_disk_view : MemDisk → DiskView
mem_disk_view disk = record {
  content = Some disk.pages.items;
  count = Some (length disk.pages.items);
  may_leave = λ c. IsImage (written_of disk.calls.items disk.pages.items) c;
  moment = disk.crashed_at + length (calls_of disk.calls.items disk.pages.items);
  left_since = λ t c. Since (earlier disk.calls.items disk.pages.items) (calls_of disk.calls.items disk.pages.items) (t - disk.crashed_at) c;
  faults = disk.faults;
}

-- how many writes and barriers it was asked for since it was made
abbrev pub made_of : MemDisk → ℕ
made_of disk = disk.made

-- how many calls of read it has had since it was made
abbrev pub disk_reads : MemDisk → ℕ
disk_reads disk = disk.reads

-- the writes and barriers that are to fail, counted from now
abbrev pub failing_calls : MemDisk → List ℕ
failing_calls disk = disk.failing

-- the calls of pages and read that are to fail, counted from now
abbrev pub failing_reads_of : MemDisk → List ℕ
failing_reads_of disk = disk.failing_reads

-- the number of the write or barrier at which it is to stop, if there is one
abbrev pub stop_of : MemDisk → Option ℕ
stop_of disk = disk.stop

-- whether it is stopped
abbrev pub is_stopped : MemDisk → Bool
is_stopped disk = disk.is_stopped

-- the disk holds and may leave the same, has counted the same, and is stopped or not as before
pub record IsSameMemDisk (old new : MemDisk) : Type 0 where
  pub pages : new.pages.items ≡ old.pages.items
  pub calls : new.calls.items ≡ old.calls.items
  pub crashed_at : new.crashed_at ≡ old.crashed_at
  pub faults : new.faults ≡ old.faults
  pub made : new.made ≡ old.made
  pub reads : new.reads ≡ old.reads
  pub stopped : new.is_stopped ≡ old.is_stopped

-- these writes and barriers and these calls of pages and read are to fail, counted from now, and the disk is to stop at this write or
-- barrier, by its number since it was made, or at none
pub record IsPlanned (disk : MemDisk) (failing failing_reads : List ℕ) (stop : Option ℕ) : Type 0 where
  pub failing_are : disk.failing ≡ failing
  pub failing_reads_are : disk.failing_reads ≡ failing_reads
  pub stop_is : disk.stop ≡ stop
