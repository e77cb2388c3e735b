-- What each fault of the list says, which fault of a walk becomes which, which refusal each is, and when there are no such steps.
use Rattle.std.specs.Prelude.{◌≡◌, ℕ, Result, Err}
use Rattle.tw_base.specs.declared.history.refusal.Refusal.{Refusal}
use Rattle.tw_base.specs.declared.history.refusal.Refusal.TheVariants as service
use Rattle.tw_disk.specs.declared.walk_fault.WalkFault.{WalkFault}
use Rattle.tw_disk.specs.declared.walk_fault.WalkFault.TheVariants as walk
use Rattle.tw_disk.specs.Answers.{FaultSort}
use Rattle.tw_disk.specs.Answers.FaultSort.{OfPage, OfDisk, OfMemory, OfCall}
use Rattle.tw_skiplist.specs.declared.fault.ListFault.{ListFault}
use Rattle.tw_skiplist.specs.declared.fault.ListFault.TheVariants.{NoStep, BadPage, DiskFault, NoMemory}

abbrev pub list_faults : ListFault → FaultSort
list_faults (BadPage page) = OfPage page
list_faults DiskFault = OfDisk
list_faults NoMemory = OfMemory
list_faults (NoStep last) = OfCall

abbrev pub list_fault : WalkFault → ListFault
list_fault (walk.BadPage page) = BadPage page
list_fault walk.DiskFault = DiskFault

-- what a list's fault is to the service
abbrev pub list_refusal : ListFault → Refusal
list_refusal (NoStep last) = service.NoStep last
list_refusal (BadPage page) = service.BadPage page
list_refusal DiskFault = service.DiskFault
list_refusal NoMemory = service.NoMemory

-- NoStep with this last step where the fact doesn't hold, and any other answer only where it does
abbrev pub NoStepUnless : {T : Type 0} → Result T ListFault → (last : ℕ) → Type 0 → Type 0
NoStepUnless (Err (NoStep n)) last P = (n ≡ last) × (P → ⊥)
NoStepUnless _ last P = P
