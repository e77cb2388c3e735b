-- What a refused listing of nodes is to a list of steps.
use Rattle.tw_rbtree.specs.declared.fault.TreeFault.{TreeFault}
use Rattle.tw_rbtree.specs.declared.fault.TreeFault.TheVariants.{Present, Untrue, BadPage, DiskFault, NoMemory}
use Rattle.tw_skiplist.specs.declared.fault.ListFault.{ListFault}
use Rattle.tw_skiplist.specs.declared.fault.ListFault.TheVariants as list

-- `Present` and `Untrue` never come of a listing; what they would be is of no account
abbrev pub list_fault_of : TreeFault → ListFault
list_fault_of Present = list.NoMemory
list_fault_of Untrue = list.NoMemory
list_fault_of (BadPage page) = list.BadPage page
list_fault_of DiskFault = list.DiskFault
list_fault_of NoMemory = list.NoMemory
