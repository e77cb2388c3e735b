-- The shapes of a proof's pieces, which a spelled proof has, and by which each text that checking it hashes can be made.
use Rattle.std.specs.Prelude.{◌≡◌, ◌≢◌, ℕ, ◌<◌, ◌≤◌, List, length, IfSome}
use Rattle.tw_base.specs.declared.events.event_part.EventPart.{EventPart}
use Rattle.tw_base.specs.declared.kinds.limits.TheConstants.{LAST_STEP, MOST_EVENTS, MOST_EVENT_BYTES}
use Rattle.tw_base.specs.events.AuditPath.{path_length}
use Rattle.tw_skipproof.specs.declared.existence.Part.{Part}
use Rattle.tw_skipproof.specs.declared.opening.Opening.{Opening}
use Rattle.tw_skipproof.specs.declared.path.Link.{Link}
use Rattle.tw_skipproof.specs.Paths.{HasShape}
use Rattle.tw_chain.specs.declared.proof.HopPart.{HopPart}
use Rattle.tw_chain.specs.Checks.{Check}
use Rattle.tw_chain.specs.Checks.Check.{EventOf, LinkOf, OpeningOf, PathOf}

-- the links of a path between these steps
pub record HasLinks (links : List Link) (from to : ℕ) : Type 0 where
  pub shape : HasShape links from to
  pub from_within : from ≤ LAST_STEP

pub record IsPartAuditable (at : Part) : Type 0 where
  pub labels : length at.opening.others < 40
  pub links : HasLinks at.path.links at.top at.step

-- an event among so many
pub record IsEventShaped (count : ℕ) (e : EventPart) : Type 0 where
  pub inside : e.index < count
  pub few : count ≤ MOST_EVENTS
  pub small : length e.event ≤ MOST_EVENT_BYTES
  pub path : length e.path ≡ path_length count e.index

-- a hop that is bound has links down from its bind
pub record IsHopShaped (hop : HopPart) : Type 0 where
  pub bound : hop.bind ≢ 0 → HasLinks hop.link.links hop.bind hop.entry.thread.step
  pub opened : IfSome hop.opening (λ (o : Opening). length o.others < 40)

abbrev pub IsCheckShaped : Check → Type 0
IsCheckShaped (PathOf part at upper) = IsPartAuditable at
IsCheckShaped (LinkOf part l) = HasLinks l.path.links l.top l.step
IsCheckShaped (OpeningOf part t o) = length o.others < 40
IsCheckShaped (EventOf part o e) = IsEventShaped o.count e
IsCheckShaped _ = Unit {0}
