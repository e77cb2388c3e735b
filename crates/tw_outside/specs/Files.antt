-- What inputs hold, where they tell it: the bytes of files by their names.
use Rattle.std.specs.Prelude.{◌≡◌, ℕ, ◌<◌, ◌≤◌, ◌↔◌, List, Option, Some, IsSome, take, drop, length}
use Rattle.std.specs.Option.{option_and_then}
use Rattle.std.specs.Ordering.{nat_cmp}
use Rattle.std.specs.Cmp.Lexicographic.{slice_cmp}
use Rattle.std.specs.FinMap.{FinMap, get}

-- a finite map from names to bytes
abbrev pub Files : Type 0
Files = FinMap (slice_cmp nat_cmp) (List ℕ)

-- the bytes of the named file
abbrev pub file_bytes : Option Files → List ℕ → Option (List ℕ)
file_bytes told name = option_and_then (λ files. get files name) told

-- The inputs tell that the named file is there and has these bytes.
abbrev pub TellsBytes : Option Files → List ℕ → List ℕ → Type 0
TellsBytes told name bytes = file_bytes told name ≡ Some bytes

-- The named file is there, unless the inputs don't tell what they hold.
abbrev pub IsThere : Option Files → List ℕ → Type 0
IsThere told name = IsSome told → IsSome (file_bytes told name)

-- The first n bytes of the piece are those of the file from a place on.
-- None come at the end of the file, and only there, unless the piece has no room.
pub record Came (bytes : List ℕ) (at : ℕ) (piece : List ℕ) (n : ℕ) : Type 0 where
  pub given : take n piece ≡ take n (drop at bytes)
  pub ends : 0 < length piece → ((n ≡ 0) ↔ (length bytes ≤ at))

-- These are the first bytes of the named file, where it is told.
abbrev pub IsFrontOfFile : Option Files → List ℕ → List ℕ → Type 0
IsFrontOfFile told name front = (bytes : List ℕ) → TellsBytes told name bytes → front ≡ take (length front) bytes

-- These are the bytes of the named file up to the limit, or all of them if it has no more, where it is told.
abbrev pub IsReadTo : Option Files → List ℕ → ℕ → List ℕ → Type 0
IsReadTo told name limit all = (bytes : List ℕ) → TellsBytes told name bytes → all ≡ take limit bytes
