-- The bytes of pages: those of a codec from the front on, and zeros to the end.
use Rattle.std.specs.Prelude.{◌≡◌, ℕ, ◌-◌, ◌^◌, List, ◌++◌, length, drop, replicate, Result, Ok, Err, Option, Some, None}
use Rattle.tw_base.specs.declared.kinds.failure.ReadFault.{ReadFault}
use Rattle.tw_base.specs.format.Codecs.{Codec, number_codec}
use Rattle.tw_base.specs.declared.kinds.limits.TheConstants.{PAGE_SIZE}

-- the number of a page
abbrev pub page_number_codec : Codec ℕ
page_number_codec = number_codec 8 0 (2 ^ 64 - 1)

-- these bytes, and then zeros to the end of a page
abbrev pub padded : List ℕ → List ℕ
padded bytes = bytes ++ replicate (PAGE_SIZE - length bytes) 0

-- the page is the spelling of this value, and then zeros to its end
pub record IsPageOf {X : Type 0} (c : Codec X) (page : List ℕ) (x : X) : Type 0 where
  pub bytes : page ≡ padded (c.write x)
  pub fits : c.Fits x

-- from this place on the page is zeros
abbrev pub IsZeroFrom : List ℕ → ℕ → Type 0
IsZeroFrom page after = drop after page ≡ replicate (PAGE_SIZE - after) 0

module _ {Y : Type 0} where
  -- what was read of a page, up to a place, is the answer exactly where zeros follow
  abbrev pub IsPageTo : List ℕ → (after : ℕ) → Result Y ReadFault → Option Y → Type 0
  IsPageTo page after (Ok value) (Some answer) = (value ≡ answer) × IsZeroFrom page after
  IsPageTo page after (Ok value) None = IsZeroFrom page after → ⊥
  IsPageTo page after (Err fault) (Some answer) = ⊥
  IsPageTo page after (Err fault) None = Unit {0}
