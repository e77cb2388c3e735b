-- The calls of an object in memory that are to fail, by their numbers counted from now: 1 is the next call.
use Rattle.std.specs.Prelude.{ℕ, ◌==◌, ◌-◌, Bool, List, map}
use Rattle.std.specs.List.{list_any}

-- The next call is to fail.
abbrev pub fails_next : List ℕ → Bool
fails_next calls = list_any (λ k. k == 1) calls

-- the same calls, counted from after the next one; 0 is no call
abbrev pub after_call : List ℕ → List ℕ
after_call calls = map (λ k. k - 1) calls
