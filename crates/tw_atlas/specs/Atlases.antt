-- What an atlas is: what is checked of its legs and its arrivals, line by line.
use Rattle.std.specs.Prelude.{◌≡◌, ◌≢◌, ℕ, ◌≤◌, List, ◌∷◌, map, slice_get, IsTrue, Some}
use Rattle.std.specs.List.{AllPairs}
use Rattle.std.specs.List.Sorted.{IsStrictlySortedBy}
use Rattle.std.specs.Ordering.{nat_cmp}
use Rattle.std.specs.Cmp.Lexicographic.{slice_cmp}
use Rattle.tw_base.specs.declared.history.report.Hop.{Hop}
use Rattle.tw_base.specs.declared.history.thread.Key.{Key}
use Rattle.tw_base.specs.kinds.Lists.{Each, In}
use Rattle.tw_atlas.specs.declared.atlas.Arrival.{Arrival}
use Rattle.tw_atlas.specs.declared.atlas.Atlas.{Atlas}
use Rattle.tw_atlas.specs.declared.atlas.Leg.{Leg}
use Rattle.tw_atlas.specs.Reaching.{goes_on_from, target}

abbrev pub leg_hops : List Leg → List Hop
leg_hops legs = map (λ (leg : Leg). leg.hop) legs

-- the start, and then where each leg leads: with number 0 the start, with number k where leg k leads
abbrev pub stops : (start : Key) → List Leg → List Key
stops start legs = start ∷ map (λ (leg : Leg). target leg.hop) legs

-- leg k + 1: it is a given hop, and goes on from the stop of its `after`, which is the start or an earlier leg's
pub record IsGrounded (given : List Hop) (start : Key) (legs : List Leg) (k : ℕ) (leg : Leg) : Type 0 where
  pub is_given : In leg.hop given
  pub earlier : leg.after ≤ k
  pub follows : (at : Key) × (slice_get (stops start legs) leg.after ≡ Some at) × IsTrue (goes_on_from at leg.hop)

-- each given hop that goes on from a stop is a leg
abbrev pub IsAtlasClosed : (given : List Hop) → (start : Key) → List Leg → Type 0
IsAtlasClosed given start legs =
    (at : Key) (hop : Hop) → In at (stops start legs) → In hop given → IsTrue (goes_on_from at hop) → In hop (leg_hops legs)

-- the least step of the service among the stops, and the least number of a stop that has it
pub record IsBest (at : List Key) (arrival : Arrival) : Type 0 where
  pub stands : slice_get at arrival.leg ≡ Some (record { from = arrival.service; step = arrival.step })
  pub least : (number : ℕ) (stop : Key) → slice_get at number ≡ Some stop → stop.from ≡ arrival.service → arrival.step ≤ stop.step
  pub first : (number : ℕ) (stop : Key) → slice_get at number ≡ Some stop → stop.from ≡ arrival.service → stop.step ≡ arrival.step → arrival.leg ≤ number

-- one for each service that has a stop, by name
pub record AreArrivals (at : List Key) (arrivals : List Arrival) : Type 0 where
  pub names_rise : IsStrictlySortedBy (slice_cmp nat_cmp) (map (λ (arrival : Arrival). arrival.service) arrivals)
  pub best : Each (IsBest at) arrivals
  pub all : Each (λ (stop : Key). (arrival : Arrival) × In arrival arrivals × (arrival.service ≡ stop.from)) at

-- an atlas of the given hops from the start: no hop is a leg twice
pub record IsAtlas (given : List Hop) (start : Key) (atlas : Atlas) : Type 0 where
  pub once : AllPairs (λ one other. one ≢ other) (leg_hops atlas.legs)
  pub grounded : (k : ℕ) (leg : Leg) → slice_get atlas.legs k ≡ Some leg → IsGrounded given start atlas.legs k leg
  pub closed : IsAtlasClosed given start atlas.legs
  pub arrivals : AreArrivals (stops start atlas.legs) atlas.arrivals
