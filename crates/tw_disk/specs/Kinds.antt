-- Kinds of root records.
use Rattle.std.specs.Prelude.{ℕ, List}

-- the bytes of a record, and whether it may stand in a store of so many used pages and of this generation
pub record RecordKind (R : Type 0) : Type 1 where
  pub bytes : R → List ℕ
  pub May : (used generation : ℕ) → R → Type 0
