-- What a sink has taken, where it tells it.
use Rattle.std.specs.Prelude.{◌≡◌, ℕ, ◌<◌, ◌++◌, List, Option, Some, take, length}

-- What was taken before stays, and these bytes come after it.
abbrev pub Appends : Option (List ℕ) → Option (List ℕ) → List ℕ → Type 0
Appends old new bytes = (taken : List ℕ) → old ≡ Some taken → new ≡ Some (taken ++ bytes)

-- What was taken before stays, and nothing comes after it.
abbrev pub IsUnchanged : Option (List ℕ) → Option (List ℕ) → Type 0
IsUnchanged old new = (taken : List ℕ) → old ≡ Some taken → new ≡ Some taken

-- What was taken before stays, and a part of the text comes after it: its first bytes, not all of them.
pub record AppendsPart (old new : Option (List ℕ)) (text : List ℕ) : Type 0 where
  pub size : ℕ
  pub proper : size < length text
  pub appends : Appends old new (take size text)
