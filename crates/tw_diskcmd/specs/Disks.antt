-- Which history, and which record and pages whatever these keep, a disk reads as and stands for, and what a run leaves of them.
use Rattle.std.specs.Prelude.{Option, Result}
use Rattle.sha2.specs.Sha256.{sha256}
use Rattle.tw_base.specs.history.History.{History}
use Rattle.tw_disk.specs.Disk.{DiskView}
use Rattle.tw_disk.specs.Image.{Image}
use Rattle.tw_pages.specs.Disks.{ReadsAsState, RestsAtState, StandsAtState}
pub use Rattle.tw_pages.specs.Disks.{IsLeft}
use Rattle.tw_pages.specs.Records.{IsWritten, Written}
use Rattle.tw_answers.specs.declared.root.RootRecord.{RootRecord}
use Rattle.tw_answers.specs.Roots.{root_kind}
use Rattle.tw_service.specs.Machine.{Call, IsStepOf, NextOf, Reply}
pub use Rattle.tw_service.specs.Stands.{IsImageOfHistory}
use Rattle.tw_diskcmd.specs.Leaves.{KeepsStore, ReadLeaves as ReadLeavesOf, SparesOtherStore}
use Rattle.tw_text.specs.declared.fault.CommandFault.{CommandFault}
pub use Rattle.tw_diskcmd.specs.Comes.{FoundDisk, found_disk}

-- the image opens as a service's store with this record and these pages, whatever they keep
abbrev pub IsService : Written RootRecord → Image → Type 0
IsService w image = IsWritten root_kind w image

-- a next history by the machine's call; and one to which the machine's step is answered so
abbrev pub NextBy : Call → (h next : History) → Type 0
NextBy call h next = NextOf sha256 call h next

abbrev pub StepsBy : Call → Reply → (h next : History) → Type 0
StepsBy call reply h next = NextOf sha256 call h next × IsStepOf sha256 h call reply next

abbrev pub ReadsAsHistory : (found : Option Image) → History → Type 0
ReadsAsHistory found h = ReadsAsState (IsImageOfHistory sha256) found h

module _ {D : Type 0} (view : D → DiskView) where
  abbrev pub StandsAtHistory : (disk : D) → History → Type 0
  StandsAtHistory disk h = StandsAtState (IsImageOfHistory sha256) view disk h

  abbrev pub RestsAtHistory : (disk : D) → History → Type 0
  RestsAtHistory disk h = RestsAtState (IsImageOfHistory sha256) view disk h

  -- the history that the disk stood for stands; and so do the record and pages that it opened with, whatever they keep
  abbrev pub KeepsServiceDisk : (old new : D) → Type 0
  KeepsServiceDisk old new = KeepsStore root_kind (IsImageOfHistory sha256) view old new

  abbrev pub ReadLeavesHistory : {X : Type 0} → (old new : D) → Result X CommandFault → Type 0
  ReadLeavesHistory old new result = ReadLeavesOf root_kind (IsImageOfHistory sha256) view old new result

  -- what is opened as no service, a follower's store among it, is left so, with writes pending or not
  abbrev pub SparesOtherThanService : (old new : D) → Type 0
  SparesOtherThanService old new = SparesOtherStore root_kind (IsImageOfHistory sha256) view old new
