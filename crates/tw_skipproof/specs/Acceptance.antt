-- When an existence proof is accepted under an authenticator of its top, and what climbing to it hashes.
use Rattle.std.specs.Prelude.{ℕ, ◌≤◌, List, ◌++◌}
use Rattle.tw_base.specs.events.AuditPath.{ChecksEvent}
use Rattle.tw_base.specs.declared.events.event_part.EventPart.{EventPart}
use Rattle.tw_skipproof.specs.declared.existence.ExistenceProof.{ExistenceProof}
use Rattle.tw_skipproof.specs.declared.existence.Part.{Part}
use Rattle.tw_skipproof.specs.declared.opening.Opening.{Opening}
use Rattle.tw_skipproof.specs.Openings.{IsOpeningAt, opening_auth, opening_texts}
use Rattle.tw_skipproof.specs.Paths.{Climbs, path_texts}

module _ (dig : List ℕ → List ℕ) where
  -- the opening is one of the part's step, and the path climbs from the authenticator that it computes to this one of the top
  pub record Reaches (at : Part) (upper : List ℕ) : Type 0 where
    pub opening : IsOpeningAt at.step at.opening
    pub path : Climbs dig at.path.links at.top at.step (opening_auth dig at.step at.opening) upper

  -- the event computes the event root of the opening, with the opening's count of events
  abbrev pub ShowsEvent : Opening → EventPart → Type 0
  ShowsEvent o e = ChecksEvent dig o.event_root o.count e.index e.event e.path

  pub record IsAcceptedUnder (upper : List ℕ) (p : ExistenceProof) : Type 0 where
    pub order : p.at.step ≤ p.at.top
    pub path : Reaches p.at upper
    pub event : ShowsEvent p.at.opening p.event

  -- what computing the top's authenticator of a part hashes: the opening, and the path from the bottom upwards
  unfoldable pub part_texts : Part → List (List ℕ)
  part_texts at = opening_texts dig at.step at.opening ++ path_texts dig at.path.links at.top at.step (opening_auth dig at.step at.opening)
