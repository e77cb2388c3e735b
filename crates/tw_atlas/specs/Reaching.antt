-- Where a list of hops leads from a start, a step of a service.
use Rattle.std.specs.Prelude.{◌≡◌, ℕ, ◌≤◌, List, [], ◌∷◌, Bool, ◌&&◌, nat_le, IsTrue}
use Rattle.std.specs.Str.{bytes_eq}
use Rattle.tw_base.specs.declared.history.report.Hop.{Hop}
use Rattle.tw_base.specs.declared.history.thread.Key.{Key}
use Rattle.tw_base.specs.kinds.Lists.{In}

-- the step of the service that a hop leaves, and the one that it leads to
abbrev pub source : Hop → Key
source hop = record { from = hop.from; step = hop.step }

abbrev pub target : Hop → Key
target hop = record { from = hop.by; step = hop.archived }

-- the hop goes on from a step of a service: it leaves that service, at that step or later
abbrev pub goes_on_from : Key → Hop → Bool
goes_on_from at hop = bytes_eq hop.from at.from && nat_le at.step hop.step

-- the hops are given ones, and each of them goes on from where the one before led, the first from the start
abbrev pub IsChain : (given : List Hop) → (start : Key) → List Hop → Type 0
IsChain given start [] = Unit {0}
IsChain given start (hop ∷ hops) = In hop given × IsTrue (goes_on_from start hop) × IsChain given (target hop) hops

abbrev pub end_of_hops : (start : Key) → List Hop → Key
end_of_hops start [] = start
end_of_hops start (hop ∷ hops) = end_of_hops (target hop) hops

-- a chain ends there; that of no hop ends at the start, so the start's own step counts for its service, and for no other
abbrev pub ReachesByHops : (given : List Hop) → (start at : Key) → Type 0
ReachesByHops given start at = (hops : List Hop) × IsChain given start hops × (end_of_hops start hops ≡ at)

-- the least step of the service to which a chain leads
pub record IsLeast (given : List Hop) (start : Key) (service : List ℕ) (step : ℕ) : Type 0 where
  pub reached : ReachesByHops given start (record { from = service; step = step })
  pub least : (other : ℕ) → ReachesByHops given start (record { from = service; step = other }) → step ≤ other
