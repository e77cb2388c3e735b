-- What stands in the slots of an image, and why an image is refused.
use Rattle.std.specs.Prelude.{◌≡◌, ◌⊎◌, ℕ, ◌+◌, ◌<◌, ◌≤◌, List, length, slice_index}
use Rattle.tw_disk.specs.Image.{Image, page_at}
use Rattle.tw_pages.specs.Store.{IsClosed, IsBody}
use Rattle.tw_pages.specs.declared.open.StoreFault.{StoreFault}
use Rattle.tw_pages.specs.declared.open.StoreFault.TheVariants.{Taken, Blank, NotAStore, DiskFault, NoMemory}
use Rattle.tw_disk.specs.declared.limits.TheConstants.{FIRST_PAGE}
use Rattle.tw_pages.specs.declared.limits.TheConstants.{FIRST_BODY}

-- the gate of this slot reads open
abbrev pub IsOpen : ℕ → Image → Type 0
IsOpen slot image = slice_index (page_at image slot) 0 ≡ 1

-- the gate of this slot reads open, and its body isn't of the grammar of bodies on a disk of that many pages
pub record BreaksSlot (count slot : ℕ) (image : Image) : Type 0 where
  pub gate : IsOpen slot image
  pub no_body : (generation used : ℕ) (root : List ℕ) → IsBody count (page_at image (FIRST_BODY + slot)) generation used root → ⊥

-- both gates read open, over bodies of one generation
pub record HasOneGeneration (image : Image) : Type 0 where
  pub generation : ℕ
  pub used_first : ℕ
  pub root_first : List ℕ
  pub used_second : ℕ
  pub root_second : List ℕ
  pub gate_first : IsOpen 0 image
  pub gate_second : IsOpen 1 image
  pub first : IsBody (length image) (page_at image FIRST_BODY) generation used_first root_first
  pub second : IsBody (length image) (page_at image (FIRST_BODY + 1)) generation used_second root_second

-- the slot is the lowest that fails: its gate reads open over no body; or it is slot 1 and both bodies have one generation
abbrev pub FailsFirst : ℕ → Image → Type 0
FailsFirst slot image = ((slot ≡ 0) × BreaksSlot (length image) 0 image)
    ⊎ ((slot ≡ 1) × (BreaksSlot (length image) 0 image → ⊥) × (BreaksSlot (length image) 1 image ⊎ HasOneGeneration image))

-- no store was begun, or its gates were never opened
abbrev pub IsBlank : Image → Type 0
IsBlank image = (length image < FIRST_PAGE) ⊎ (IsClosed 0 image × IsClosed 1 image)

-- there are four pages, and a gate reads open
abbrev pub IsTaken : Image → Type 0
IsTaken image = (FIRST_PAGE ≤ length image) × (IsOpen 0 image ⊎ IsOpen 1 image)

-- why an image isn't opened
abbrev pub IsRefusedFor : Image → StoreFault → Type 0
IsRefusedFor image Blank = IsBlank image
IsRefusedFor image (NotAStore slot) = (FIRST_PAGE ≤ length image) × FailsFirst slot image
IsRefusedFor image Taken = ⊥
IsRefusedFor image DiskFault = ⊥
IsRefusedFor image NoMemory = ⊥
