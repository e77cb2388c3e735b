-- Two claims of which the one says that this came before that, and the other that that came before this.
use Rattle.std.specs.Prelude.{◌≡◌, ℕ, ◌≤◌, List, ◌++◌}
use Rattle.tw_base.specs.declared.history.report.Claim.{Claim}
use Rattle.tw_base.specs.declared.history.report.Claim.TheVariants.{Precedes}
use Rattle.tw_base.specs.declared.history.thread.Place.{Place}
use Rattle.tw_base.specs.declared.history.thread.Thread.{Thread}
use Rattle.tw_base.specs.history.Family.{AllSound, HasThreads, family_texts}
use Rattle.tw_base.specs.history.History.{History}
use Rattle.tw_base.specs.kinds.Clash.{OrClash}
use Rattle.tw_chain.specs.declared.proof.Proof.{Proof}
use Rattle.tw_chain.specs.Accepting.{held, proof_texts}
use Rattle.tw_circle.specs.Rings.{HasRing}

-- both places are of one service, and the step of the one isn't above that of the other
abbrev pub IsNoLater : (one other : Place) → Type 0
IsNoLater one other = (one.service ≡ other.service) × (one.step ≤ other.step)

-- the one claim is that a first event precedes a second; the other that an event of the second one's service, at its step or a later
-- one, precedes an event of the first one's service, at its step or an earlier one
abbrev pub AreOpposed : Claim → Claim → Type 0
AreOpposed (Precedes first second) (Precedes third fourth) =
    IsNoLater second.place third.place × IsNoLater fourth.place first.place
AreOpposed _ _ = ⊥

module _ (dig : List ℕ → List ℕ) where
  -- each list of sound histories that has the threads held of both proofs has a ring among its own texts; or two different texts
  -- of the histories and of the proofs, both of bytes, have one digest
  abbrev pub HasRingOrClash : (anchors others : List Thread) (p q : Proof) → Type 0
  HasRingOrClash anchors others p q =
      (family : List History) → AllSound family → HasThreads dig family (held anchors p) → HasThreads dig family (held others q)
      → OrClash dig (family_texts dig family ++ (proof_texts dig p ++ proof_texts dig q)) (HasRing dig (family_texts dig family))
