-- What files tell that are read by their names, one at a time.
use Rattle.std.specs.Prelude.{◌≡◌, ℕ, ◌+◌, List, Bool, Option, Some, IsTrue}
use Rattle.tw_outside.specs.Files.{Files, TellsBytes, IsThere, Came}

-- some file is open, and stands somewhere
pub record IsFileOpen (stands : List ℕ → ℕ → Bool) : Type 0 where
  pub name : List ℕ
  pub place : ℕ
  pub is : IsTrue (stands name place)

-- whichever file is open, it is there, where files are told
abbrev pub IsOpenThere : Option Files → (stands : List ℕ → ℕ → Bool) → Type 0
IsOpenThere told stands = (name : List ℕ) (place : ℕ) → IsTrue (stands name place) → IsThere told name

-- whichever file is open, and wherever it stands, the first bytes of the piece are its bytes from there, where files are told
abbrev pub CameOf : Option Files → (stands : List ℕ → ℕ → Bool) → (piece : List ℕ) → (n : ℕ) → Type 0
CameOf told stands piece n = (name : List ℕ) (place : ℕ) → IsTrue (stands name place) → (bytes : List ℕ) → TellsBytes told name bytes → Came bytes place piece n

-- the open file stays open, and stands so many bytes further
abbrev pub StandsFurther : (old new : List ℕ → ℕ → Bool) → (n : ℕ) → Type 0
StandsFurther old new n = (name : List ℕ) (place : ℕ) → IsTrue (old name place) → IsTrue (new name (place + n))

-- the open file stays open, and stands at this place
abbrev pub StandsAt : (old new : List ℕ → ℕ → Bool) → (to : ℕ) → Type 0
StandsAt old new to = (name : List ℕ) (place : ℕ) → IsTrue (old name place) → IsTrue (new name to)

-- the open file stays open, where it stood
abbrev pub StandsStill : (old new : List ℕ → ℕ → Bool) → Type 0
StandsStill old new = (name : List ℕ) (place : ℕ) → IsTrue (old name place) → IsTrue (new name place)

-- where a place is known, the file of this name is open and stands there
abbrev pub StandsWhere : (stands : List ℕ → ℕ → Bool) → (name : List ℕ) → (known : Option ℕ) → Type 0
StandsWhere stands name known = (place : ℕ) → known ≡ Some place → IsTrue (stands name place)
