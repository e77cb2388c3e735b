-- How the refusals of services are told.
use Rattle.tw_base.specs.declared.history.refusal.Refusal.{Refusal}
use Rattle.tw_base.specs.declared.history.refusal.Refusal.TheVariants as service
use Rattle.tw_text.specs.declared.refusal.StoreCause.TheVariants.{BadPage}
use Rattle.tw_text.specs.declared.fault.CommandFault.{CommandFault}
use Rattle.tw_text.specs.declared.fault.CommandFault.TheVariants.{Refused, Unserved, DiskFault, NoMemory}

-- what a service's refusal comes to; the value is given up after each call, so that it has to be opened anew never comes, and its messages
-- are read before, so that bytes are none never does
abbrev pub fault_of_service : Refusal → CommandFault
fault_of_service (service.BadPage page) = Unserved (BadPage page)
fault_of_service service.DiskFault = DiskFault
fault_of_service service.Reopen = DiskFault
fault_of_service (service.Malformed place) = DiskFault
fault_of_service service.NoMemory = NoMemory
fault_of_service refusal = Refused refusal
