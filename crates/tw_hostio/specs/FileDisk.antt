-- What a disk over a file tells of itself.
use Rattle.std.specs.Prelude.{◌≡◌, ℕ, ◌/◌, List, length, Option, Some, None, Bool, true, false}
use Rattle.std.specs.Option.{option_map}
use Rattle.tw_base.specs.declared.kinds.limits.TheConstants.{PAGE_SIZE}
use Rattle.tw_disk.specs.Disk.{DiskView}
use Rattle.tw_disk.specs.Image.{Image}
use Rattle.tw_hostio.specs.FileBytes.{whole_pages}
use Rattle.tw_hostio.specs.PageFile.{FileView}

-- the pages are those of such bytes
pub record ArePagesOfOutcome (outcomes : List ℕ → Type 0) (c : Image) : Type 0 where
  pub bytes : List ℕ
  pub left : outcomes bytes
  pub pages : whole_pages bytes ≡ c

-- the number of the pages, where they are told; else the number that was counted
abbrev pub page_count : Option Image → Option ℕ → Option ℕ
page_count None counted = counted
page_count (Some pages) counted = Some (length pages)

-- The disk's content is the whole pages of the file, and a crash leaves those of bytes that it may leave of the file.
abbrev pub file_disk_view : FileView → (counted : Option ℕ) → (faults : ℕ) → DiskView
file_disk_view file counted faults = record {
  content = option_map whole_pages file.bytes;
  count = page_count (option_map whole_pages file.bytes) counted;
  may_leave = λ c. ArePagesOfOutcome file.may_leave c;
  moment = file.moment;
  left_since = λ t c. ArePagesOfOutcome (file.left_since t) c;
  faults = faults;
}

-- where the number of pages was counted and isn't in doubt, it is that of the told bytes
abbrev pub IsCountOf : Option (List ℕ) → (counted : Option ℕ) → (in_doubt : Bool) → Type 0
IsCountOf None counted in_doubt = Unit {0}
IsCountOf (Some bytes) None in_doubt = Unit {0}
IsCountOf (Some bytes) (Some n) true = Unit {0}
IsCountOf (Some bytes) (Some n) false = n ≡ length bytes / PAGE_SIZE
