-- What a fault of a call says, and the one that a fault of its walk is.
use Rattle.tw_disk.specs.declared.walk_fault.WalkFault.{WalkFault}
use Rattle.tw_disk.specs.declared.walk_fault.WalkFault.TheVariants.{BadPage as BadOnWay, DiskFault as FaultOnWay}
use Rattle.tw_disk.specs.Answers.{FaultSort}
use Rattle.tw_disk.specs.Answers.FaultSort.{OfPage, OfDisk, OfMemory, OfCall}
use Rattle.tw_rbtree.specs.declared.fault.TreeFault.{TreeFault}
use Rattle.tw_rbtree.specs.declared.fault.TreeFault.TheVariants.{BadPage, DiskFault, NoMemory}

abbrev pub tree_faults : TreeFault → FaultSort
tree_faults (BadPage page) = OfPage page
tree_faults DiskFault = OfDisk
tree_faults NoMemory = OfMemory
tree_faults _ = OfCall

abbrev pub tree_fault : WalkFault → TreeFault
tree_fault (BadOnWay page) = BadPage page
tree_fault FaultOnWay = DiskFault
