-- The numbers that are drawn, and the events that they make.
use Rattle.std.specs.Prelude.{ℕ, suc, zero, ◌+◌, ◌*◌, ◌/◌, ◌%◌, ◌^◌, List, [], ◌∷◌, ◌++◌, replicate}

-- what a draw makes of the state, and the number that is drawn then
abbrev pub next_state : (state : ℕ) → ℕ
next_state x = (x * 6364136223846793005 + 1442695040888963407) % 2 ^ 64

abbrev pub drawn : (state : ℕ) → ℕ
drawn x = x / 2 ^ 33

-- the state after so many draws
unfoldable pub after_draws : (state draws : ℕ) → ℕ
after_draws x zero = x
after_draws x (suc n) = next_state (after_draws x n)

-- an event: 200 times the byte of a number that is drawn
abbrev pub drawn_event : (number : ℕ) → List ℕ
drawn_event number = replicate 200 (number % 256)

-- so many events, each by a draw
unfoldable pub drawn_events : (state count : ℕ) → List (List ℕ)
drawn_events x zero = []
drawn_events x (suc n) = drawn_events x n ++ drawn_event (drawn (after_draws x (suc n))) ∷ []

-- the events of a step: a first draw says how many, from one to four
abbrev pub drawn_count : (state : ℕ) → ℕ
drawn_count x = 1 + drawn (next_state x) % 4

abbrev pub step_events : (state : ℕ) → List (List ℕ)
step_events x = drawn_events (next_state x) (drawn_count x)

abbrev pub after_step : (state : ℕ) → ℕ
after_step x = after_draws (next_state x) (drawn_count x)
