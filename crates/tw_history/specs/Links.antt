-- The authenticators to which the links of a step lead, as they are kept by levels.
use Rattle.std.specs.Prelude.{◌≡◌, ℕ, ◌-◌, ◌≤◌, ◌^◌, List, [], slice_index_or}
use Rattle.tw_base.specs.kinds.Levels.{top_level}

-- of each level the authenticator, among the earlier ones, that the step's link of that level leads to
abbrev pub AreReached : (step : ℕ) (earlier latest : List (List ℕ)) → Type 0
AreReached step earlier latest = (level : ℕ) → level ≤ top_level step → slice_index_or latest level [] ≡ slice_index_or earlier (step - 2 ^ level) []
