-- A disk that goes on telling its content reads as an image that a crash may leave.
use Rattle.std.proofs.Common.{◌≡◌, Option, Some}
use Rattle.tw_disk.specs.Image.{Image}
use Rattle.tw_disk.specs.Disk.{DiskView, Reads, StaysTold}

-- one run after another
pub told_on : (old mid new : Option Image) → StaysTold old mid → StaysTold mid new → StaysTold old new
told_on old mid new first second = λ c told. let there = first c told in second there.0 there.1

-- what each image that a crash now may leave has, the content has too
pub told_reads : (disk : DiskView) (P : Image → Type 0) → ((c : Image) → disk.content ≡ Some c → disk.may_leave c)
    → (d : Image) × (disk.content ≡ Some d) → ((c : Image) → disk.may_leave c → P c) → Reads disk P
told_reads disk P as_it_reads there now =
    record { image = there.0; told = there.1; has = now there.0 (as_it_reads there.0 there.1) }
