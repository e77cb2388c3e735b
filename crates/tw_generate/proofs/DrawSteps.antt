-- What one draw more makes.
use Rattle.std.proofs.Common.{◌≡◌, ℕ, ◌+◌, [], ◌∷◌, ◌++◌, ap, refl, add-one}
use Rattle.tw_generate.specs.Draws.{after_draws, drawn, drawn_event, drawn_events, next_state}

pub drawn-none : (x : ℕ) → drawn_events x 0 ≡ []
unfolding drawn_events
drawn-none x = refl

pub after-none : (x : ℕ) → after_draws x 0 ≡ x
unfolding after_draws
after-none x = refl

pub after-more : (x n : ℕ) → after_draws x (n + 1) ≡ next_state (after_draws x n)
unfolding after_draws
after-more x n = ap (after_draws x) (add-one n)

pub drawn-more : (x n : ℕ) → drawn_events x (n + 1) ≡ drawn_events x n ++ drawn_event
    (drawn (next_state (after_draws x n))) ∷ []
unfolding drawn_events after_draws
drawn-more x n = ap (drawn_events x) (add-one n)
