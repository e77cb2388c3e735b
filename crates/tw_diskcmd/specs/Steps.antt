-- The steps of a command that adds to a store, of one level: of states, or of records with pages whatever these keep.
use Rattle.std.specs.Prelude.{Result, Ok, Err}
use Rattle.tw_disk.specs.Disk.{DiskView, LeavesOnly}
use Rattle.tw_disk.specs.Image.{Image}
use Rattle.tw_pages.specs.Disks.{Adds, KeepsOrAdds, OneOf, ReadsAsOneOf, RestsAtState, Settles}
use Rattle.tw_text.specs.declared.fault.CommandFault.{CommandFault}
use Rattle.tw_text.specs.declared.fault.CommandFault.TheVariants.{DiskFault, Taken, Refused, NotFollowed}

-- of a call that may make such a next one, and whose answer is right for these
module _ {D S X : Type 0} (IsOf : S → Image → Type 0) (view : D → DiskView) (old new : D) (Next : (s next : S) → Type 0) (Answers : X → (s next : S) → Type 0) where
  -- what it makes of a disk at rest
  abbrev pub AddsFrom : S → Result X CommandFault → Type 0
  AddsFrom s (Ok x) = (next : S) × Answers x s next × RestsAtState IsOf view new next × LeavesOnly (view old) (view new) (OneOf IsOf s next)
  AddsFrom s (Err DiskFault) = (next : S) × Next s next × ReadsAsOneOf IsOf view new s next × LeavesOnly (view old) (view new) (OneOf IsOf s next)
  AddsFrom s (Err Taken) = RestsAtState IsOf view new s
  AddsFrom s (Err (Refused refusal)) = RestsAtState IsOf view new s
  AddsFrom s (Err (NotFollowed refusal)) = RestsAtState IsOf view new s
  AddsFrom s _ = Unit {0}

  -- of one that reads so, with writes pending or not
  abbrev pub AddsTo : Result X CommandFault → Type 0
  AddsTo (Ok x) = Adds IsOf view (Answers x) old new
  AddsTo (Err DiskFault) = KeepsOrAdds IsOf view Next old new
  AddsTo (Err Taken) = Settles IsOf view old new
  AddsTo (Err (Refused refusal)) = Settles IsOf view old new
  AddsTo (Err (NotFollowed refusal)) = Settles IsOf view old new
  AddsTo _ = Unit {0}
