-- How the refusals of followers are told.
use Rattle.tw_base.specs.declared.history.refusal.FollowRefusal.{FollowRefusal}
use Rattle.tw_base.specs.declared.history.refusal.FollowRefusal.TheVariants as follower
use Rattle.tw_text.specs.declared.refusal.StoreCause.TheVariants.{BadPage}
use Rattle.tw_text.specs.declared.fault.CommandFault.{CommandFault}
use Rattle.tw_text.specs.declared.fault.CommandFault.TheVariants.{NotFollowed, Unserved, DiskFault, NoMemory}

-- what a follower's refusal comes to; the value is given up after each call, and the message was read before it, so that the value has
-- to be opened anew or the bytes are no message never comes
abbrev pub fault_of_follower : FollowRefusal → CommandFault
fault_of_follower (follower.BadPage page) = Unserved (BadPage page)
fault_of_follower follower.DiskFault = DiskFault
fault_of_follower follower.Reopen = DiskFault
fault_of_follower (follower.Malformed place) = DiskFault
fault_of_follower follower.NoMemory = NoMemory
fault_of_follower refusal = NotFollowed refusal
