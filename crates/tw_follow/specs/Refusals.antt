-- What kinds of refusals of a follower there are.
use Rattle.tw_disk.specs.Answers.{FaultSort}
use Rattle.tw_disk.specs.Answers.FaultSort.{OfPage, OfDisk, OfMemory, OfCall}
use Rattle.tw_base.specs.declared.history.refusal.FollowRefusal.{FollowRefusal}
use Rattle.tw_base.specs.declared.history.refusal.FollowRefusal.TheVariants.{BadPage, DiskFault, NoMemory}

-- what each refusal says: of a page, of the disk, of memory, and all others of the message or of the value
abbrev pub follower_refusals : FollowRefusal → FaultSort
follower_refusals (BadPage page) = OfPage page
follower_refusals DiskFault = OfDisk
follower_refusals NoMemory = OfMemory
follower_refusals _ = OfCall

-- of a page, the disk or memory, and of no message
abbrev pub IsFollowerFault : FollowRefusal → Type 0
IsFollowerFault (BadPage _) = Unit {0}
IsFollowerFault DiskFault = Unit {0}
IsFollowerFault NoMemory = Unit {0}
IsFollowerFault _ = ⊥
