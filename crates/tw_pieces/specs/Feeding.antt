-- A reader that is fed a word in pieces, and can be asked between them whether a word still goes on.
use Rattle.std.specs.Prelude.{ℕ, ◌<◌, List, length, Bool, true, false}
use Rattle.tw_pieces.specs.declared.feeding.Fed.{Fed}
use Rattle.tw_pieces.specs.declared.feeding.Fed.TheVariants.{Reading, Broken, Spent}
use Rattle.tw_base.specs.format.Formats.{Format, IsFront, IsPlace}
use Rattle.tw_pieces.specs.Resuming.{IsSoFar}

module _ {S : Type 0} where
  -- no memory was left for a piece, and no piece behind it is read
  abbrev pub IsSpent : Fed S → Type 0
  IsSpent (Reading r) = ⊥
  IsSpent (Broken place) = ⊥
  IsSpent (Spent broken) = Unit {0}

  -- no word goes on behind the pieces, as the reader knows it
  abbrev pub is_reader_broken : Fed S → Bool
  is_reader_broken (Reading r) = false
  is_reader_broken (Broken place) = true
  is_reader_broken (Spent broken) = broken

module _ {S X : Type 0} (rest : S → Format X) (whole : Format X) where
  -- the reader was fed these pieces: they are a front of a word, and it goes on from them; or they break at this place; or no
  -- memory was left for one of them
  abbrev pub HasFed : Fed S → (pieces : List ℕ) → Type 0
  HasFed (Reading r) pieces = IsSoFar rest whole r pieces × IsFront whole pieces
  HasFed (Broken place) pieces = (place < length pieces) × IsPlace whole pieces place
  HasFed (Spent broken) pieces = Unit {0}
