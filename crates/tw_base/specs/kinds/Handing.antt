-- What is handed on to a transcript, which says by a relation of its own which texts it took.
use Rattle.std.specs.Prelude.{ℕ, List, ◌++◌}

-- whatever the transcript took before, it took these texts behind it
pub record Hands {S : Type 0} (took : S → List (List ℕ) → Type 0) (old new : S) (texts : List (List ℕ)) : Type 0 where
  pub behind : (before : List (List ℕ)) → took old before → took new (before ++ texts)
