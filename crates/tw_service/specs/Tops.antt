-- The top that a question is asked under.
use Rattle.std.specs.Prelude.{ℕ, Option, Some, None}

-- the top that is asked for, or the last step where none is
abbrev pub top_or_last : (top : Option ℕ) → (last : ℕ) → ℕ
top_or_last (Some top) last = top
top_or_last None last = last
