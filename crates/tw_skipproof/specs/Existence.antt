-- Proofs that one event exists: which of them have a spelling.
use Rattle.std.specs.Prelude.{◌≡◌, ℕ, ◌<◌, ◌≤◌, List, length}
use Rattle.tw_base.specs.declared.kinds.limits.TheConstants.{LAST_STEP, MOST_EVENTS, MOST_EVENT_BYTES}
use Rattle.tw_base.specs.events.AuditPath.{path_length}
use Rattle.tw_base.specs.events.EventParts.{event_part}
use Rattle.tw_base.specs.format.Formats.{Format}
use Rattle.tw_base.specs.kinds.Levels.{top_level}
use Rattle.tw_base.specs.history.Limits.{IsTimeWithinLimits}
use Rattle.tw_skipproof.specs.declared.existence.ExistenceProof.{ExistenceProof}
use Rattle.tw_skipproof.specs.declared.existence.Part.{Part}
use Rattle.tw_skipproof.specs.Codecs.{existence_codec}
use Rattle.tw_skipproof.specs.Paths.{HasShape}

abbrev pub existence_layout : Format ExistenceProof
existence_layout = existence_codec.format

abbrev pub existence_bytes : ExistenceProof → List ℕ
existence_bytes = existence_codec.write

-- what is made of the part of a step, for the event at the index among the step's events
abbrev pub existence_of_part : (dig : List ℕ → List ℕ) → Part → (events : List (List ℕ)) → (index : ℕ) → ExistenceProof
existence_of_part dig at events index = record { at = at; event = event_part dig events index }

-- the ranges that the format gives the numbers of a step under a top
pub record IsPartInRange (p : Part) : Type 0 where
  pub step : p.step ≤ LAST_STEP
  pub top : p.top ≤ LAST_STEP
  pub count : p.opening.count ≤ MOST_EVENTS
  pub time : IsTimeWithinLimits p.opening.time

-- and those of an existence proof and its event
pub record IsExistenceInRange (p : ExistenceProof) : Type 0 where
  pub at : IsPartInRange p.at
  pub index : p.event.index < p.at.opening.count
  pub event : length p.event.event ≤ MOST_EVENT_BYTES

-- the path and the opening have the links and the numbers of labels that the steps give them
pub record IsPartShaped (p : Part) : Type 0 where
  pub step : 0 < p.step
  pub top : 0 < p.top
  pub path : HasShape p.path.links p.top p.step
  pub opening : length p.opening.others ≡ top_level p.step

-- and the event's path the number of labels that its index and the count of events give it
pub record IsShaped (p : ExistenceProof) : Type 0 where
  pub at : IsPartShaped p.at
  pub event : length p.event.path ≡ path_length p.at.opening.count p.event.index
