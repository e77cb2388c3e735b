-- The arrivals that are kept while stops are gone over.
use Rattle.std.specs.Prelude.{◌≡◌, ◌≢◌, ℕ, List, slice_get, MatchOption, Option, Some, None, Bool, true, nat_lt}
use Rattle.std.specs.BTreeMap.{BTreeMap, get}
use Rattle.std.specs.Cmp.Lexicographic.{slice_cmp}
use Rattle.std.specs.Ordering.{nat_cmp}
use Rattle.tw_base.specs.declared.history.thread.Key.{Key}
use Rattle.tw_atlas.specs.declared.atlas.Arrival.{Arrival}
use Rattle.tw_atlas.specs.Atlases.{IsBest}

-- the arrival that is kept for the service
abbrev pub kept_for : BTreeMap (List ℕ) Arrival → (service : List ℕ) → Option Arrival
kept_for kept service = get (slice_cmp nat_cmp) kept service

-- for each service its arrival at the stops; none where it has no stop
abbrev pub AreBest : (at : List Key) → (List ℕ → Option Arrival) → Type 0
AreBest at kept =
    (service : List ℕ) → MatchOption (kept service)
    ((number : ℕ) (stop : Key) → slice_get at number ≡ Some stop → stop.from ≢ service)
    (λ (arrival : Arrival). (arrival.service ≡ service) × IsBest at arrival)

-- the step is below that of the arrival, where there is one
abbrev pub is_arrival_lower : (step : ℕ) → Option Arrival → Bool
is_arrival_lower step None = true
is_arrival_lower step (Some arrival) = nat_lt step arrival.step
