-- What a reading of pages, one after another, comes to, and what the bytes of a page spell.
use Rattle.std.specs.Prelude.{ℕ, suc, zero, ◌+◌, ◌-◌, ◌==◌, ◌&&◌, List, [], ◌∷◌, length, drop, nat_le, nat_lt, Bool, true, false, Result, Ok, Err}
use Rattle.tw_base.specs.format.Codecs.{Codec}
use Rattle.tw_base.specs.format.Formats.{Placed}
use Rattle.tw_disk.specs.declared.limits.TheConstants.{FIRST_PAGE}
use Rattle.tw_disk.specs.Image.{Image, page_at}

-- this value, or the number of the first page met that isn't of its kind
pub data Found (X : Type 0) : Type 0 where
  Is : X → Found X
  Bad : (page : ℕ) → Found X

module _ {X Y : Type 0} where
  infixl 10 ◌>>=◌
  -- one reading and then the next, which goes by what the first found
  abbrev pub ◌>>=◌ : Found X → (X → Found Y) → Found Y
  (Is x) >>= next = next x
  (Bad page) >>= next = Bad page

module _ {X : Type 0} where
  -- the value where the test is passed, and else this page
  abbrev pub when : Bool → (page : ℕ) → X → Found X
  when true page x = Is x
  when false page x = Bad page

-- the bytes of the page of this number; the pages have the numbers from the first on
unfoldable pub bytes_in : Image → (page : ℕ) → Found (List ℕ)
bytes_in pages page = when (nat_le FIRST_PAGE page && nat_lt page (FIRST_PAGE + length pages)) page (page_at pages (page - FIRST_PAGE))

-- so many zeros, and nothing else
abbrev pub is_zeros : (count : ℕ) → List ℕ → Bool
is_zeros zero [] = true
is_zeros zero (b ∷ bytes) = false
is_zeros (suc count) [] = false
is_zeros (suc count) (b ∷ bytes) = (b == 0) && is_zeros count bytes

module _ {X : Type 0} where
  -- the value that was read, where zeros follow it up to this size; else this page
  abbrev pub or_bad : (page size : ℕ) → List ℕ → Result (Placed X) ℕ → Found X
  or_bad page size bytes (Ok read) = when (is_zeros (size - read.after) (drop read.after bytes)) page read.value
  or_bad page size bytes (Err place) = Bad page

  -- what the bytes spell: the codec reads it from their front, and behind it are zeros up to this size, and nothing else
  unfoldable pub spelled : (page size : ℕ) → Codec X → List ℕ → Found X
  spelled page size c bytes = or_bad page size bytes (c.read bytes 0)
