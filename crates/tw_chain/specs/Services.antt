-- The services of whose histories an accepted proof speaks, that a thread of each is held, and which threads may be held.
use Rattle.std.specs.Prelude.{◌≡◌, ◌⊎◌, ℕ, List, [], ◌∷◌}
use Rattle.tw_base.specs.declared.history.report.Claim.{Claim}
use Rattle.tw_base.specs.declared.history.report.Claim.TheVariants.{Exists, Precedes, Archived, Absent, Linked}
use Rattle.tw_base.specs.declared.history.report.Hop.{Hop}
use Rattle.tw_base.specs.declared.history.thread.Thread.{Thread}
use Rattle.tw_base.specs.kinds.Lists.{Each, In}
use Rattle.tw_chain.specs.declared.proof.Proof.{Proof}
use Rattle.tw_chain.specs.Accepting.{carried, claim_of, held, hops_of}

-- the services of whose histories the claim speaks: of an archive the one that keeps it
abbrev pub services_of : Claim → List (List ℕ)
services_of (Exists seen) = seen.place.service ∷ []
services_of (Precedes first second) = first.place.service ∷ second.place.service ∷ []
services_of (Archived service step entry) = service ∷ []
services_of (Absent service step key) = service ∷ []
services_of (Linked service step top auth) = service ∷ []

-- one of the threads is of the service
abbrev pub HasThreadOf : List Thread → (service : List ℕ) → Type 0
HasThreadOf threads service = (t : Thread) × In t threads × (t.from ≡ service)

-- the thread is an anchor that the verifier has, or one that the proof carries, which the report tells: with this step and this authenticator
abbrev pub IsOfThese : (anchors carried : List Thread) → Thread → Type 0
IsOfThese anchors carried t = In t anchors ⊎ In t carried

-- of each service of the claim, and of both services of each hop, a thread is held: one whose anchor the verifier has, or one that
-- the proof carries; no other thread is held than such a one, with its step and its authenticator, and each that is carried is held
pub record HoldsItsServices (anchors : List Thread) (p : Proof) : Type 0 where
  pub claim : Each (HasThreadOf (held anchors p)) (services_of (claim_of p))
  pub hops : Each (λ (hop : Hop). HasThreadOf (held anchors p) hop.from × HasThreadOf (held anchors p) hop.by) (hops_of p)
  pub only : Each (IsOfThese anchors (carried p)) (held anchors p)
  pub all_carried : Each (λ (t : Thread). In t (held anchors p)) (carried p)
