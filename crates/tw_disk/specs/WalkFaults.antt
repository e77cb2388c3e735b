-- What the faults of a walk over pages say, and want of memory alone; and which refusal each is.
use Rattle.tw_base.specs.declared.history.refusal.FollowRefusal.{FollowRefusal}
use Rattle.tw_base.specs.declared.history.refusal.FollowRefusal.TheVariants as follower
use Rattle.tw_base.specs.declared.history.refusal.Refusal.{Refusal}
use Rattle.tw_base.specs.declared.history.refusal.Refusal.TheVariants as service
use Rattle.tw_base.specs.declared.kinds.failure.NoMemory.{NoMemory}
use Rattle.tw_disk.specs.declared.walk_fault.WalkFault.{WalkFault}
use Rattle.tw_disk.specs.declared.walk_fault.WalkFault.TheVariants.{BadPage, DiskFault}
use Rattle.tw_disk.specs.Answers.{FaultSort}
use Rattle.tw_disk.specs.Answers.FaultSort.{OfPage, OfDisk, OfMemory}

abbrev pub walk_faults : WalkFault → FaultSort
walk_faults (BadPage page) = OfPage page
walk_faults DiskFault = OfDisk

-- of a call that reads nothing, and may find no memory
abbrev pub memory_alone : NoMemory → FaultSort
memory_alone none = OfMemory

-- what a walk's fault is to a service
abbrev pub refusal_of_walk : WalkFault → Refusal
refusal_of_walk (BadPage page) = service.BadPage page
refusal_of_walk DiskFault = service.DiskFault

-- what it is to a follower
abbrev pub walk_refusal : WalkFault → FollowRefusal
walk_refusal (BadPage page) = follower.BadPage page
walk_refusal DiskFault = follower.DiskFault
