-- When a proof is accepted, what it then claims, and what checking it hashes.
use Rattle.std.specs.Prelude.{ℕ, List, [], ◌∷◌, ◌++◌, reverse}
use Rattle.std.specs.List.{flat_map}
use Rattle.tw_base.specs.declared.events.event_part.EventPart.{EventPart}
use Rattle.tw_base.specs.declared.history.report.Claim.{Claim}
use Rattle.tw_base.specs.declared.history.report.Claim.TheVariants as claims
use Rattle.tw_base.specs.declared.history.report.Hop.{Hop}
use Rattle.tw_base.specs.declared.history.report.Report.{Report}
use Rattle.tw_base.specs.declared.history.report.Seen.{Seen}
use Rattle.tw_base.specs.declared.history.thread.Key.{Key}
use Rattle.tw_base.specs.declared.history.thread.Thread.{Thread}
use Rattle.tw_base.specs.format.Formats.{Spells}
use Rattle.tw_base.specs.kinds.Lists.{Each}
use Rattle.tw_skipproof.specs.declared.existence.Part.{Part}
use Rattle.tw_chain.specs.declared.proof.HopPart.{HopPart}
use Rattle.tw_chain.specs.declared.proof.Proof.{Proof}
use Rattle.tw_chain.specs.declared.proof.Proof.TheVariants.{Exists, Precedes, Archived, Absent, Linked}
use Rattle.tw_chain.specs.Checks.{checks, end_of_order, tail_at}
use Rattle.tw_chain.specs.Proofs.{proof_layout}
use Rattle.tw_chain.specs.Passing.{Passes, carried_by, check_texts, held_by, needed_by}

-- the services and steps that the proof needs an anchor of, in the order of its bytes
abbrev pub named : Proof → List Key
named p = flat_map needed_by (checks p)

-- the threads that the proof carries, in the order of its bytes
abbrev pub carried : Proof → List Thread
carried p = flat_map carried_by (checks p)

-- the threads that the verifier holds of those that the proof names, and those that it carries, in the order of its bytes
abbrev pub held : List Thread → Proof → List Thread
held anchors p = flat_map (held_by anchors) (checks p)

module _ (dig : List ℕ → List ℕ) where
  -- each of its checks passes
  abbrev pub IsAccepted : List Thread → Proof → Type 0
  IsAccepted anchors p = Each (Passes dig anchors) (checks p)

  -- the bytes spell a proof that is accepted under the anchors
  abbrev pub Accepts : List Thread → List ℕ → Type 0
  Accepts anchors bytes = (p : Proof) × Spells proof_layout bytes p × IsAccepted anchors p

  -- what checking the proof hashes, in the order of its bytes
  abbrev pub proof_texts : Proof → List (List ℕ)
  proof_texts p = flat_map (check_texts dig) (checks p)

-- the event at its place, with the opening's time, or none
abbrev pub seen_at : Part → EventPart → Seen
seen_at at e = record {
  place = record { service = at.service; step = at.step; index = e.index };
  event = e.event;
  time = at.opening.time;
}

-- what the proof claims: that the event stands at its step and index, and that the step has the opening's time, or none; that
-- the first event precedes the second; that the step's archive has the entry; that it has none of the key; that the step
-- has the authenticator
abbrev pub claim_of : Proof → Claim
claim_of (Exists p) = claims.Exists (seen_at p.at p.event)
claim_of (Precedes p) = claims.Precedes (seen_at (tail_at (end_of_order p) p.tail) p.tail.event) (seen_at p.head p.event)
claim_of (Archived p) = claims.Archived p.at.service p.at.step p.entry
claim_of (Absent p) = claims.Absent p.at.service p.at.step p.key
claim_of (Linked p) = claims.Linked p.service p.step p.top p.auth

-- the hop to the archive of this service that the part tells
abbrev pub hop_from : (by : List ℕ) → HopPart → Hop
hop_from by hop = record { from = hop.entry.thread.from; step = hop.entry.thread.step; by = by; archived = hop.entry.archived }

-- the hops to the archives of this service and on, from the first event's service to it: in the bytes they stand the other way
abbrev pub hops_to : (by : List ℕ) → List HopPart → List Hop
hops_to by [] = []
hops_to by (hop ∷ hops) = hops_to hop.entry.thread.from hops ++ hop_from by hop ∷ []

abbrev pub hops_of : Proof → List Hop
hops_of (Precedes p) = hops_to p.head.service p.hops
hops_of _ = []

-- the claim, and the hops and the carried threads from the first event's service to the second's
abbrev pub report_of : Proof → Report
report_of p = record { claim = claim_of p; hops = hops_of p; carried = reverse (carried p) }
