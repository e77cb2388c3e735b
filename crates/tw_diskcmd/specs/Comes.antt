-- What a command over a store's disk comes to, by what it met of the disk.
use Rattle.std.specs.Prelude.{◌≡◌, ℕ, Option, Some, Result, Ok, Err}
use Rattle.tw_base.specs.declared.history.thread.Thread.{Thread}
use Rattle.tw_base.specs.kinds.Faults.{Rose}
use Rattle.tw_disk.specs.Image.{Image}
use Rattle.tw_pages.specs.Slots.{IsTaken}
use Rattle.tw_text.specs.declared.fault.CommandFault.{CommandFault}
use Rattle.tw_text.specs.declared.fault.CommandFault.TheVariants.{Taken, Refused, NotFollowed, Unserved, DiskFault, NoMemory}

-- what a command met of a disk: what it read as at first, where it tells that, and how often it had failed before and after
pub record FoundDisk : Type 0 where
  pub found : Option Image
  pub before : ℕ
  pub after : ℕ

abbrev pub found_disk : (found : Option Image) (before after : ℕ) → FoundDisk
found_disk found before after = record { found = found; before = before; after = after }

module _ {X : Type 0} where
  -- the result tells of the disk's content, and isn't one that may always come or comes of a fault
  abbrev pub TellsContent : Result X CommandFault → Type 0
  TellsContent (Err DiskFault) = ⊥
  TellsContent (Err NoMemory) = ⊥
  TellsContent _ = Unit {0}

  -- what a command comes to that opens the store of the disk, where its results are such of what the disk read as; want of memory is free
  abbrev pub DiskComes : (Is : Option Image → Result X CommandFault → Type 0) → FoundDisk → Result X CommandFault → Type 0
  DiskComes Is t (Ok value) = Is t.found (Ok value)
  DiskComes Is t (Err Taken) = Is t.found (Err Taken)
  DiskComes Is t (Err (Refused refusal)) = Is t.found (Err (Refused refusal))
  DiskComes Is t (Err (NotFollowed refusal)) = Is t.found (Err (NotFollowed refusal))
  DiskComes Is t (Err (Unserved cause)) = Is t.found (Err (Unserved cause))
  DiskComes Is t (Err DiskFault) = Rose t.before t.after
  DiskComes Is t (Err NoMemory) = Unit {0}
  DiskComes Is t _ = ⊥

-- there was no store, where the disk tells what it read as, and the thread is that of the new one
pub record MakesStore (found : Option Image) (new thread : Thread) : Type 0 where
  pub free : (image : Image) → found ≡ Some image → IsTaken image → ⊥
  pub first : thread ≡ new

-- there was one
abbrev pub HasStore : (found : Option Image) → Type 0
HasStore found = (image : Image) → found ≡ Some image → IsTaken image

-- what the making of a store comes to whose thread is this; want of memory is free
abbrev pub MakeComes : FoundDisk → (new : Thread) → Result Thread CommandFault → Type 0
MakeComes t new (Ok thread) = MakesStore t.found new thread
MakeComes t new (Err Taken) = HasStore t.found
MakeComes t new (Err DiskFault) = Rose t.before t.after
MakeComes t new (Err NoMemory) = Unit {0}
MakeComes t new _ = ⊥
