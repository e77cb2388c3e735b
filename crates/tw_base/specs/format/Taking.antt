-- What a reader of one codec at a place answers, and what a writer leaves.
use Rattle.std.specs.Prelude.{◌≡◌, ℕ, ◌≤◌, List, ◌++◌, length, Result, Ok, Err}
use Rattle.tw_base.specs.declared.kinds.failure.ReadFault.{ReadFault}
use Rattle.tw_base.specs.declared.kinds.failure.ReadFault.TheVariants.{Malformed, NoMemory}
use Rattle.tw_base.specs.declared.kinds.failure.NoMemory.{NoMemory as WantOfMemory}
use Rattle.tw_base.specs.format.Codecs.{Codec}

module _ {X Y : Type 0} where
  -- it took the value that the codec reads there, and stands behind it; or it tells the place at which the codec stops
  abbrev pub Takes : Codec X → (Y → X) → (bytes : List ℕ) (at after : ℕ) → Result Y ReadFault → Type 0
  Takes c view bytes at after (Ok y) =
      (c.read bytes at ≡ Ok (record { value = view y; after = after })) × c.Fits (view y) × (after ≤ length bytes)
  Takes c view bytes at after (Err (Malformed place)) = c.read bytes at ≡ Err place
  Takes c view bytes at after (Err NoMemory) = Unit {0}

module _ {X : Type 0} where
  -- it wrote the value behind what was there, and the value has that spelling
  abbrev pub Puts : Codec X → X → (before after : List ℕ) → Result (Unit {0}) WantOfMemory → Type 0
  Puts c x before after (Ok done) = (after ≡ before ++ c.write x) × c.Fits x
  Puts c x before after (Err fault) = Unit {0}
