-- When evidence shows a fork, and the first reason why it doesn't. Below, the first proof shows that a service S had the authenticator T at
-- a step k, as the receiver was told, and the second one that it had U at a step m; the path leads from m down to k, and X is the bottom.
use Rattle.std.specs.Prelude.{◌≡◌, ◌≢◌, ◌⊎◌, ℕ, ◌<◌, ◌≤◌, List, ◌++◌, Bool, false, Some, ◌&&◌, not, nat_le, if◌then◌else◌}
use Rattle.std.specs.Option.{option_map_or}
use Rattle.std.specs.Str.{bytes_eq}
use Rattle.tw_base.specs.declared.history.thread.Thread.{Thread}
use Rattle.tw_base.specs.format.Formats.{IsPlace, Spells, SpellsNothing}
use Rattle.tw_skipproof.specs.Paths.{Climbs, path_texts}
use Rattle.tw_chain.specs.declared.proof.Proof.TheVariants.{Archived}
use Rattle.tw_chain.specs.declared.verdict.Verdict.TheVariants.{No as Rejected}
use Rattle.tw_chain.specs.Accepting.{IsAccepted, proof_texts}
use Rattle.tw_chain.specs.Checks.{checks}
use Rattle.tw_chain.specs.Finding.{climbs, found_in}
use Rattle.tw_chain.specs.Proofs.{proof_bytes}
use Rattle.tw_chain.specs.Reasons.{IsVerdict}
use Rattle.tw_evidence.specs.declared.evidence.Evidence.{Evidence}
use Rattle.tw_evidence.specs.declared.fork.Fork.{Fork}
use Rattle.tw_evidence.specs.declared.fork.ForkReason.{ForkReason}
use Rattle.tw_evidence.specs.declared.fork.ForkReason.TheVariants.{Malformed, Part, NoConflict, BadLink}
use Rattle.tw_evidence.specs.declared.fork.ForkVerdict.{ForkVerdict}
use Rattle.tw_evidence.specs.declared.fork.ForkVerdict.TheVariants.{Yes, No}
use Rattle.tw_evidence.specs.Evidence.{evidence_layout}

-- the threads that the first and the second proof show as received
abbrev pub lower : Evidence → Thread
lower e = e.first.entry.thread

abbrev pub upper : Evidence → Thread
upper e = e.second.entry.thread

-- two threads are of one service, and the first isn't of the later step
abbrev pub are_in_order : (lower upper : Thread) → Bool
are_in_order lower upper = bytes_eq lower.from upper.from && nat_le lower.step upper.step

-- both threads are of one service, the first not of the later step, and the first has another authenticator than the bottom
abbrev pub conflicts : Evidence → Bool
conflicts e = are_in_order (lower e) (upper e) && not (bytes_eq e.bottom (lower e).auth)

-- what accepted evidence shows: both entries, and who received them
abbrev pub fork_of : Evidence → Fork
fork_of e = record {
  first = e.first.entry;
  first_by = e.first.at.service;
  second = e.second.entry;
  second_by = e.second.at.service;
}

module _ (dig : List ℕ → List ℕ) where
  -- the path climbs from the bottom at the first thread's step to the second thread
  abbrev pub link_climbs : Evidence → Bool
  link_climbs e = climbs dig e.link.links (upper e).step (lower e).step e.bottom (Some (upper e).auth)

  -- what checking evidence hashes, in the order of its bytes: of both proofs, and of the path from the bottom upwards
  abbrev pub evidence_texts : Evidence → List (List ℕ)
  evidence_texts e =
      proof_texts dig (Archived e.first)
      ++ (proof_texts dig (Archived e.second) ++ path_texts dig e.link.links (upper e).step (lower e).step e.bottom)

  -- the verdict on evidence both of whose proofs are accepted
  abbrev pub conflict_verdict : Evidence → ForkVerdict
  conflict_verdict e = if not (conflicts e) then No NoConflict else (if link_climbs e then Yes (fork_of e) else No BadLink)

  module _ (anchors : List Thread) where
    -- ---- the verdict

    -- the lowest reason against the first proof; else that against the second one; else that there is no conflict, or that the
    -- path doesn't climb
    abbrev pub fork_verdict : Evidence → ForkVerdict
    fork_verdict e =
        option_map_or (λ reason. No (Part 1 reason)) (found_in dig anchors (checks (Archived e.first)))
        (option_map_or (λ reason. No (Part 2 reason)) (found_in dig anchors (checks (Archived e.second))) (conflict_verdict e))

    -- the verdict on bytes: that on the evidence that they spell; or, where they spell none, the place of the first byte at which
    -- no evidence goes on
    abbrev pub IsForkVerdict : List ℕ → ForkVerdict → Type 0
    IsForkVerdict bytes verdict =
        ((e : Evidence) × Spells evidence_layout bytes e × (verdict ≡ fork_verdict e))
        ⊎ (SpellsNothing evidence_layout bytes × ((place : ℕ) × IsPlace evidence_layout bytes place × (verdict ≡ No (Malformed place))))

    -- ---- when it is Yes, and why it isn't

    -- both proofs are accepted, of threads of one service, the first not of the later step; the bottom isn't the first thread's
    -- authenticator; and the path climbs from it to the second one's
    pub record ShowsFork (e : Evidence) : Type 0 where
      pub first : IsAccepted dig anchors (Archived e.first)
      pub second : IsAccepted dig anchors (Archived e.second)
      pub service : (lower e).from ≡ (upper e).from
      pub order : (lower e).step ≤ (upper e).step
      pub differs : e.bottom ≢ (lower e).auth
      pub climbs : Climbs dig e.link.links (upper e).step (lower e).step e.bottom (upper e).auth

-- the threads are of two services, or the first is of the later step, or it has the bottom for its authenticator
abbrev pub HasNoConflict : Evidence → Type 0
HasNoConflict e = ((lower e).from ≢ (upper e).from) ⊎ (((upper e).step < (lower e).step) ⊎ (e.bottom ≡ (lower e).auth))

module _ (dig : List ℕ → List ℕ) (anchors : List Thread) where
  -- both proofs are accepted
  abbrev pub IsEvidenceAccepted : Evidence → Type 0
  IsEvidenceAccepted e = IsAccepted dig anchors (Archived e.first) × IsAccepted dig anchors (Archived e.second)

  -- when each reason is the one that is told: the reason against a proof is that of the verdict on the proof by itself
  abbrev pub IsReasonTold : Evidence → ForkReason → Type 0
  IsReasonTold e (Malformed place) = ⊥
  IsReasonTold e (Part number reason) =
      ((number ≡ 1) × IsVerdict dig anchors false (proof_bytes (Archived e.first)) (Rejected reason))
      ⊎ ((number ≡ 2) × IsAccepted dig anchors (Archived e.first)
      × IsVerdict dig anchors false (proof_bytes (Archived e.second)) (Rejected reason))
  IsReasonTold e NoConflict = IsEvidenceAccepted e × HasNoConflict e
  IsReasonTold e BadLink =
      IsEvidenceAccepted e × (HasNoConflict e → ⊥)
      × (Climbs dig e.link.links (upper e).step (lower e).step e.bottom (upper e).auth → ⊥)
