-- The parts of a proof from event to event as the services of a family make them.
use Rattle.std.specs.Prelude.{◌≡◌, ℕ, ◌≤◌, List, length, Some, Ok}
use Rattle.tw_base.specs.declared.history.thread.Thread.{Thread}
use Rattle.tw_base.specs.format.Formats.{Spells}
use Rattle.tw_base.specs.history.Chains.{HopStands}
use Rattle.tw_base.specs.history.Family.{AllSound, HasHistory, HasThread}
use Rattle.tw_base.specs.history.History.{History}
use Rattle.tw_base.specs.kinds.Lists.{Each}
use Rattle.tw_chain.specs.declared.proof.PrecedenceProof.{PrecedenceProof}
use Rattle.tw_chain.specs.declared.proof.Proof.{Proof}
use Rattle.tw_chain.specs.declared.proof.Proof.TheVariants.{Precedes, Archived}
use Rattle.tw_chain.specs.Accepting.{Accepts, IsAccepted, named}
use Rattle.tw_join.specs.Joining.{joined_proof, shown_hop}
use Rattle.tw_join.specs.Joining.Taken.{Nothing}
use Rattle.tw_chain.specs.OwnProofs.{HasFewNodes, IsOwnProof}
use Rattle.tw_chain.specs.Passing.{anchor_at}
use Rattle.tw_chain.specs.Proofs.{proof_bytes, proof_layout}

module _ (dig : List ℕ → List ℕ) (family : List History) where
  -- a history of the family has this proof itself
  pub record IsMade (part : Proof) : Type 0 where
    pub history : History
    pub has : HasHistory family history.name history
    pub step : ℕ
    pub top : ℕ
    pub order : step ≤ top
    pub within : top ≤ length history.steps
    pub own : IsOwnProof dig history step top part

  -- the hop that a proof of a thread shows stands in the family
  abbrev pub HopOfPartStands : Proof → Type 0
  HopOfPartStands (Archived t) = HopStands dig family (shown_hop t)
  HopOfPartStands _ = Unit {0}

  -- each anchor that the proof needs is held, and the family has it
  abbrev pub IsAnchored : (anchors : List Thread) → Proof → Type 0
  IsAnchored anchors p = Each (λ key. (anchor : Thread) × (anchor_at anchors key ≡ Some anchor) × HasThread dig family anchor) (named p)

-- parts that services of a sound family made, for hops that stand there, and that fit, join to a proof that is accepted wherever
-- the family's anchors of the tops that it names are held
abbrev pub JoinedIsAccepted : (dig : List ℕ → List ℕ) → Type 0
JoinedIsAccepted dig =
    (family : List History) (parts : List Proof) (p : PrecedenceProof) (anchors : List Thread) → AllSound family
    → Each (IsMade dig family) parts → Each (HopOfPartStands dig family) parts → joined_proof Nothing 1 parts ≡ Ok p
    → IsAnchored dig family anchors (Precedes p) → IsAccepted dig anchors (Precedes p)

-- where no part has more nodes above the place of its tree proof than the format has room for, the bytes that are written of what
-- such parts join to spell it, and are accepted there
abbrev pub JoinedBytesAreAccepted : (dig : List ℕ → List ℕ) → Type 0
JoinedBytesAreAccepted dig =
    (family : List History) (parts : List Proof) (p : PrecedenceProof) (anchors : List Thread) → AllSound family
    → Each (IsMade dig family) parts → Each HasFewNodes parts → Each (HopOfPartStands dig family) parts
    → joined_proof Nothing 1 parts ≡ Ok p → IsAnchored dig family anchors (Precedes p)
    → Spells proof_layout (proof_bytes (Precedes p)) (Precedes p) × Accepts dig anchors (proof_bytes (Precedes p))
