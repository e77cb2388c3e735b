-- The levels of a step's links.
use Rattle.std.specs.Prelude.{ℕ, suc, zero}
use Rattle.std.specs.Int.{w64, trailing_zeros}

-- the greatest level l such that 2 ^ l divides the step; step 0 has no link and is given level 0
unfoldable pub top_level : ℕ → ℕ
top_level zero = 0
top_level (suc i) = trailing_zeros w64 (suc i)
