-- What a history's own proofs claim.
use Rattle.std.specs.Prelude.{◌≡◌, ℕ, List}
use Rattle.tw_base.specs.declared.history.report.Claim.{Claim}
use Rattle.tw_base.specs.declared.history.report.Claim.TheVariants as claims
use Rattle.tw_base.specs.history.Auth.{auth}
use Rattle.tw_base.specs.history.History.{History, time_at}
use Rattle.tw_chain.specs.declared.proof.Proof.{Proof}
use Rattle.tw_chain.specs.declared.proof.Proof.TheVariants.{Exists, Precedes, Archived, Absent, Linked}
use Rattle.tw_chain.specs.Accepting.{claim_of}

-- the event stands at this index of the history's step, with the step's time or none
abbrev pub claim_at : History → (step index : ℕ) → (event : List ℕ) → Claim
claim_at h step index event = claims.Exists (record {
  place = record { service = h.name; step = step; index = index };
  event = event;
  time = time_at h step;
})

-- a proof of another kind claims its entry, or that there is none of its key, at the history's step, or the step's authenticator
abbrev pub ClaimsOf : (dig : List ℕ → List ℕ) → History → (step top : ℕ) → Proof → Type 0
ClaimsOf dig h step top (Exists p) = Unit {0}
ClaimsOf dig h step top (Precedes p) = Unit {0}
ClaimsOf dig h step top (Archived p) = claim_of (Archived p) ≡ claims.Archived h.name step p.entry
ClaimsOf dig h step top (Absent p) = claim_of (Absent p) ≡ claims.Absent h.name step p.key
ClaimsOf dig h step top (Linked p) = claim_of (Linked p) ≡ claims.Linked h.name step top (auth dig h step)
