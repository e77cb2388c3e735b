-- Which list of heads, and which record and pages whatever these keep, a disk reads as and stands for, and what a run leaves of them.
use Rattle.std.specs.Prelude.{Option}
use Rattle.sha2.specs.Sha256.{sha256}
use Rattle.tw_disk.specs.Disk.{DiskView}
use Rattle.tw_disk.specs.Image.{Image}
use Rattle.tw_pages.specs.Disks.{ReadsAsState, RestsAtState}
pub use Rattle.tw_pages.specs.Disks.{IsLeft}
use Rattle.tw_pages.specs.Records.{IsWritten, Written}
use Rattle.tw_follow.specs.declared.root.RootRecord.{RootRecord}
use Rattle.tw_follow.specs.HeadLists.{Kept}
use Rattle.tw_follow.specs.Stands.{StandsFor, root_kind}
pub use Rattle.tw_diskcmd.specs.Comes.{FoundDisk, found_disk}
use Rattle.tw_diskcmd.specs.Leaves.{KeepsStore, SparesOtherStore}

-- the image stands for the list
abbrev pub IsImageOfHeads : Kept → Image → Type 0
IsImageOfHeads kept image = StandsFor sha256 image kept

-- the image opens as a follower's store with this record and these pages, whatever they keep
abbrev pub IsFollower : Written RootRecord → Image → Type 0
IsFollower w image = IsWritten (root_kind sha256) w image

abbrev pub ReadsAsHeads : (found : Option Image) (kept : Kept) → Type 0
ReadsAsHeads found kept = ReadsAsState IsImageOfHeads found kept

module _ {D : Type 0} (view : D → DiskView) where
  abbrev pub RestsAtHeads : (disk : D) (kept : Kept) → Type 0
  RestsAtHeads disk kept = RestsAtState IsImageOfHeads view disk kept

  -- the list that the disk stood for stands; and so do the record and pages that it opened with, whatever they keep
  abbrev pub KeepsPage : (old new : D) → Type 0
  KeepsPage old new = KeepsStore (root_kind sha256) IsImageOfHeads view old new

  -- what is opened as no follower, a service's store among it, is left so, with writes pending or not
  abbrev pub SparesOtherThanFollower : (old new : D) → Type 0
  SparesOtherThanFollower old new = SparesOtherStore (root_kind sha256) IsImageOfHeads view old new
