-- What an atlas tells: the least step of every service to which the hops lead, and a way to it.
use Rattle.std.specs.Prelude.{◌≡◌, ◌≢◌, ℕ, suc, ◌≤◌, List, [], ◌∷◌, reverse, slice_get, Some}
use Rattle.tw_base.specs.declared.history.report.Hop.{Hop}
use Rattle.tw_base.specs.declared.history.thread.Key.{Key}
use Rattle.tw_base.specs.history.Chains.{HopStands, LeadsBy}
use Rattle.tw_base.specs.history.History.{History}
use Rattle.tw_base.specs.kinds.Lists.{Each, In}
use Rattle.tw_atlas.specs.declared.atlas.Arrival.{Arrival}
use Rattle.tw_atlas.specs.declared.atlas.Atlas.{Atlas}
use Rattle.tw_atlas.specs.declared.atlas.Leg.{Leg}
use Rattle.tw_atlas.specs.Atlases.{IsAtlas}
use Rattle.tw_atlas.specs.Rounds.{legs_of}
use Rattle.tw_atlas.specs.Reaching.{IsChain, IsLeast, ReachesByHops, end_of_hops}

-- the step of the service at which the arrival is
abbrev pub arrives_at : Arrival → Key
arrives_at arrival = record { from = arrival.service; step = arrival.step }

-- the hops of the leg with the number, of the one that its `after` tells, and so on back to the start, whose number is 0
abbrev pub IsWayBack : List Leg → (number : ℕ) → (back : List Hop) → Type 0
IsWayBack legs number [] = number ≡ 0
IsWayBack legs number (hop ∷ back) =
    (k : ℕ) × (leg : Leg) × (number ≡ suc k) × (slice_get legs k ≡ Some leg) × (leg.hop ≡ hop) × IsWayBack legs leg.after back

-- a way to an arrival: the legs that are followed back from it are a chain, which ends there, and which leads there by the hops of
-- any family in which its own hops stand
pub record IsWay (given : List Hop) (start : Key) (legs : List Leg) (arrival : Arrival) (back : List Hop) : Type 0 where
  pub followed : IsWayBack legs arrival.leg back
  pub chain : IsChain given start (reverse back)
  pub ends : end_of_hops start (reverse back) ≡ arrives_at arrival
  pub leads : (dig : List ℕ → List ℕ) (family : List History) → Each (HopStands dig family) (reverse back)
      → LeadsBy dig family (reverse back) start (arrives_at arrival)

pub record IsEarliest (given : List Hop) (start : Key) (atlas : Atlas) : Type 0 where
  -- each arrival is at the least step of its service to which a chain leads
  pub least : Each (λ (arrival : Arrival). IsLeast given start arrival.service arrival.step) atlas.arrivals
  -- to a service without an arrival no chain leads
  pub no_line : (service : List ℕ) → Each (λ (arrival : Arrival). arrival.service ≢ service) atlas.arrivals
      → (step : ℕ) → ReachesByHops given start (record { from = service; step = step }) → ⊥
  -- there is a way to each arrival
  pub way : Each (λ (arrival : Arrival). (back : List Hop) × IsWay given start atlas.legs arrival back) atlas.arrivals
  -- where no other hops than the given ones stand in a family, and any that stand lead to a step of a service, there is an arrival of
  -- that service, at that step or earlier
  pub complete : (dig : List ℕ → List ℕ) (family : List History) → ((hop : Hop) → HopStands dig family hop → In hop given)
      → (hops : List Hop) (goal : Key) → LeadsBy dig family hops start goal
      → (arrival : Arrival) × In arrival atlas.arrivals × (arrival.service ≡ goal.from) × (arrival.step ≤ goal.step)

-- the one plan: the atlas whose legs stand in rounds
pub record IsAtlasPlanned (given : List Hop) (start : Key) (atlas : Atlas) : Type 0 where
  pub legs : atlas.legs ≡ legs_of given start
  pub is_atlas : IsAtlas given start atlas
  pub earliest : IsEarliest given start atlas
