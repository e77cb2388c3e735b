-- How the faults of stores are told.
use Rattle.tw_pages.specs.declared.open.StoreFault.{StoreFault}
use Rattle.tw_pages.specs.declared.open.StoreFault.TheVariants as store
use Rattle.tw_text.specs.declared.refusal.StoreCause.TheVariants.{Blank, NotAStore}
use Rattle.tw_text.specs.declared.fault.CommandFault.{CommandFault}
use Rattle.tw_text.specs.declared.fault.CommandFault.TheVariants.{Taken, Unserved, DiskFault, NoMemory}

-- what a store that isn't made or opened comes to
abbrev pub fault_of_store : StoreFault → CommandFault
fault_of_store store.Taken = Taken
fault_of_store store.Blank = Unserved Blank
fault_of_store (store.NotAStore slot) = Unserved (NotAStore slot)
fault_of_store store.DiskFault = DiskFault
fault_of_store store.NoMemory = NoMemory
