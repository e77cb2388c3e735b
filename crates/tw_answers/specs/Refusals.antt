-- What kinds of refusals there are, and which one a fault of a tree becomes.
use Rattle.std.specs.Prelude.{ℕ}
use Rattle.tw_base.specs.history.Limits.{IsStep}
use Rattle.tw_disk.specs.Answers.{FaultSort}
use Rattle.tw_disk.specs.Answers.FaultSort.{OfPage, OfDisk, OfMemory, OfCall}
use Rattle.tw_base.specs.declared.history.refusal.Refusal.{Refusal}
use Rattle.tw_base.specs.declared.history.root.Root.{Root}
use Rattle.tw_rbtree.specs.declared.fault.TreeFault.{TreeFault}
use Rattle.tw_rbtree.specs.declared.fault.TreeFault.TheVariants as tree
use Rattle.tw_base.specs.declared.history.refusal.Refusal.TheVariants.{NoEvent, NoThread, HasThread, BadPage, DiskFault, NoMemory, TooLong}

-- what each refusal says: of a page, of the disk, of memory, and all others of a table
abbrev pub service_refusals : Refusal → FaultSort
service_refusals (BadPage page) = OfPage page
service_refusals DiskFault = OfDisk
service_refusals NoMemory = OfMemory
service_refusals _ = OfCall

-- of a page, the disk or memory, and of no table
abbrev pub IsFault : Refusal → Type 0
IsFault (BadPage _) = Unit {0}
IsFault DiskFault = Unit {0}
IsFault NoMemory = Unit {0}
IsFault _ = ⊥

-- what the fault of a call on a tree is, under this root. That a key is there, or that what is asked isn't so, was told otherwise by a
-- call before: then pages that are read don't fit one another, and the root's page is told
abbrev pub refusal_of_tree : (root : Root) → TreeFault → Refusal
refusal_of_tree root tree.Present = BadPage root.page
refusal_of_tree root tree.Untrue = BadPage root.page
refusal_of_tree root (tree.BadPage page) = BadPage page
refusal_of_tree root tree.DiskFault = DiskFault
refusal_of_tree root tree.NoMemory = NoMemory

-- that there is no thread of the key, or that a step received one
abbrev pub IsNoThread : Refusal → Type 0
IsNoThread NoThread = Unit {0}
IsNoThread _ = ⊥

abbrev pub IsHasThread : Refusal → Type 0
IsHasThread (HasThread archived) = IsStep archived
IsHasThread _ = ⊥

-- that a file would be too long
abbrev pub IsTooLong : Refusal → Type 0
IsTooLong (TooLong _) = Unit {0}
IsTooLong _ = ⊥

-- that the step has no such event
abbrev pub IsNoEvent : Refusal → Type 0
IsNoEvent (NoEvent _) = Unit {0}
IsNoEvent _ = ⊥

-- that a page isn't of its kind, or that the page read last doesn't fit the others
abbrev pub IsBadPageRefusal : Refusal → Type 0
IsBadPageRefusal (BadPage _) = Unit {0}
IsBadPageRefusal _ = ⊥

-- what holds of the page of a bad page
abbrev pub OfBadPage : Refusal → (ℕ → Type 0) → Type 0
OfBadPage (BadPage page) P = P page
OfBadPage _ P = Unit {0}
