-- What a command met of its inputs.
use Rattle.std.specs.Prelude.{ℕ, Option}
use Rattle.tw_outside.specs.Files.{Files}

-- what the inputs tell of the files, and how often they had failed before the command and after it
pub record Asked : Type 0 where
  pub told : Option Files
  pub before : ℕ
  pub after : ℕ

abbrev pub asked : (told : Option Files) (before after : ℕ) → Asked
asked told before after = record { told = told; before = before; after = after }
