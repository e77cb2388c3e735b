-- What an image of a disk opens as: two slots, each with a gate page and a body page, and then the committed pages.
use Rattle.std.specs.Prelude.{Bool, true, false, ◌≡◌, ◌≢◌, ◌⊎◌, ℕ, ◌+◌, ◌-◌, ◌<◌, ◌≤◌, List, [], ◌∷◌, length, replicate, slice_index}
use Rattle.tw_base.specs.format.Codecs.{Codec, behind, number_codec, pair, sized_codec}
use Rattle.tw_disk.specs.Image.{Image, page_at}
use Rattle.tw_base.specs.format.PageBytes.{IsPageOf, padded}
use Rattle.tw_base.specs.declared.kinds.limits.TheConstants.{PAGE_SIZE}
use Rattle.tw_disk.specs.declared.limits.TheConstants.{FIRST_PAGE, NUMBER_LIMIT}
use Rattle.tw_pages.specs.declared.limits.TheConstants.{FIRST_BODY, MOST_ROOT_BYTES}

-- the letters TWSTORE1
abbrev pub magic : List ℕ
magic = 84 ∷ 87 ∷ 83 ∷ 84 ∷ 79 ∷ 82 ∷ 69 ∷ 49 ∷ []

-- a body: the letters, the generation, the number of used pages, and the root record behind its length
unfoldable pub body_codec : Codec (ℕ × (ℕ × List ℕ))
body_codec =
    behind magic
    (pair (number_codec 8 0 (NUMBER_LIMIT - 1)) (λ generation. pair (number_codec 8 FIRST_PAGE (NUMBER_LIMIT - 1)) (λ used. sized_codec 2 0 MOST_ROOT_BYTES)))

-- its page
abbrev pub body_page : ℕ → ℕ → List ℕ → List ℕ
body_page generation used root = padded (body_codec.write (generation, (used, root)))

-- the page of an open gate
unfoldable pub open_gate_page : List ℕ
open_gate_page = 1 ∷ replicate (PAGE_SIZE - 1) 0

-- the page of a closed gate
unfoldable pub closed_gate_page : List ℕ
closed_gate_page = replicate PAGE_SIZE 0

-- the gate of this slot doesn't read open
abbrev pub IsClosed : ℕ → Image → Type 0
IsClosed slot image = slice_index (page_at image slot) 0 ≢ 1

-- what an image opens as
pub record Opening : Type 0 where
  pub root : List ℕ
  pub generation : ℕ
  pub slot : ℕ
  pub pages : Image

-- the number of the pages that an opening uses
abbrev pub used_of : Opening → ℕ
used_of o = FIRST_PAGE + length o.pages

abbrev pub spare_of : Opening → ℕ
spare_of o = 1 - o.slot

-- the page is this body, whose pages a disk of that many pages has
pub record IsBody (count : ℕ) (page : List ℕ) (generation used : ℕ) (root : List ℕ) : Type 0 where
  pub is : IsPageOf body_codec page (generation, (used, root))
  pub room : used ≤ count

-- the image has this body in its slot, with the gate open, and all the pages
pub record StandsInImage (o : Opening) (c : Image) : Type 0 where
  pub which : o.slot < 2
  pub room : used_of o ≤ length c
  pub gate : slice_index (page_at c o.slot) 0 ≡ 1
  pub body : IsBody (length c) (page_at c (FIRST_BODY + o.slot)) o.generation (used_of o) o.root
  pub pages : (k : ℕ) → k < length o.pages → page_at c (FIRST_PAGE + k) ≡ page_at o.pages k

-- the body of the other slot is one of a lower generation
pub record IsOlder (o : Opening) (c : Image) : Type 0 where
  pub generation : ℕ
  pub used : ℕ
  pub root : List ℕ
  pub body : IsBody (length c) (page_at c (FIRST_BODY + spare_of o)) generation used root
  pub lower : generation < o.generation

-- the image opens as this: either the other gate is closed, or its body is older
pub record OpensAs (o : Opening) (c : Image) : Type 0 where
  pub stands : StandsInImage o c
  pub counts : IsClosed (spare_of o) c ⊎ IsOlder o c

-- the same, with the other gate closed
pub record OpensAlone (o : Opening) (c : Image) : Type 0 where
  pub stands : StandsInImage o c
  pub closed : IsClosed (spare_of o) c

-- the same, with an older body behind the other gate, open or not
pub record OpensAboveOlder (o : Opening) (c : Image) : Type 0 where
  pub stands : StandsInImage o c
  pub older : IsOlder o c

-- one or the other
abbrev pub OpensAsEither : Opening → Opening → Image → Type 0
OpensAsEither old new c = OpensAs old c ⊎ OpensAs new c

-- what is known of the other slot: its gate may read open, above an older body, or it is closed
abbrev pub IsAbove : Bool → Opening → Image → Type 0
IsAbove true o c = OpensAboveOlder o c
IsAbove false o c = OpensAlone o c
