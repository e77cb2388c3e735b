-- What was read of the slots of an image, which the private calls speak of.
use Rattle.std.specs.Prelude.{ℕ, ◌+◌, ◌-◌, ◌<◌, ◌≤◌, length, take, drop}
use Rattle.tw_disk.specs.Image.{Image, page_at}
use Rattle.tw_pages.specs.Store.{IsClosed, IsBody, IsAbove, Opening}
use Rattle.tw_pages.specs.declared.open.Slot.{Slot}
use Rattle.tw_pages.specs.declared.open.Slot.TheVariants.{Closed, Broken, Holds}
use Rattle.tw_pages.specs.declared.open.Found.{Found}
use Rattle.tw_pages.specs.Slots.{IsOpen, BreaksSlot}
use Rattle.tw_disk.specs.declared.limits.TheConstants.{FIRST_PAGE, NUMBER_LIMIT}
use Rattle.tw_pages.specs.declared.limits.TheConstants.{FIRST_BODY}

-- what was read of a slot: a closed gate, an open one over no body, or an open one over this body
abbrev pub HoldsSlot : ℕ → ℕ → Image → Slot → Type 0
HoldsSlot count slot image Closed = IsClosed slot image
HoldsSlot count slot image Broken = BreaksSlot count slot image
HoldsSlot count slot image (Holds b) = IsOpen slot image × IsBody count (page_at image (FIRST_BODY + slot)) b.generation b.used (take b.root_len b.root)

-- a body that was read has pages that the disk has
abbrev pub HasRoom : ℕ → Slot → Type 0
HasRoom count Closed = Unit {0}
HasRoom count Broken = Unit {0}
HasRoom count (Holds b) = b.used ≤ count

-- what an image opens as by what was found in it
abbrev pub opening_found : Found → Image → Opening
opening_found f image = record { root = take f.body.root_len f.body.root; generation = f.body.generation; slot = f.slot; pages = take (f.body.used - FIRST_PAGE) (drop FIRST_PAGE image) }

pub record IsFoundIn (image : Image) (f : Found) : Type 0 where
  pub opens : IsAbove f.is_spare_open (opening_found f image) image
  pub used_from : FIRST_PAGE ≤ f.body.used
  pub used_to : f.body.used ≤ length image
  pub used_fits : f.body.used < NUMBER_LIMIT
  pub generation_fits : f.body.generation < NUMBER_LIMIT
