-- Of a proof file no more is read than is needed: the verdict on first bytes at which no proof goes on is that on all
-- of them, and no
-- front of a proof is longer than a limit.
use Rattle.std.proofs.Common.{ℕ, ◌≤◌, List, ◌++◌, length, Bool, sym, subst, arith, inl, inr}
use Rattle.std.proofs.lemmas.List.{length-append}
use Rattle.tw_base.specs.declared.history.thread.Thread.{Thread}
use Rattle.tw_base.specs.format.Formats.{IsFront}
use Rattle.tw_chain.specs.declared.verdict.Verdict.{Verdict}
use Rattle.tw_chain.specs.declared.verdict.Verdict.TheVariants.{Yes, No}
use Rattle.tw_chain.specs.Binding.{BindsHistories}
use Rattle.tw_chain.specs.Proofs.{proof_layout}
use Rattle.tw_chain.specs.Reasons.{IsVerdict, Stands}
use Rattle.tw_chain.proofs.ProofSizes.{proof-size}
use Rattle.tw_verifier.proofs.Verdicts.{malformed_bytes}
use Rattle.tw_filecmd.proofs.FormatFronts.{nothing_behind, nothing_here, place_behind}

-- no front of a proof is longer than the longest proof
pub front-size : (front : List ℕ) → IsFront proof_layout front → length front ≤ 4430818
front-size front is = let all = proof-size (front ++ is.0) is.1 is.2 in omega (arith, all, length-append front is.0)

module _ (front more : List ℕ) (broken : IsFront proof_layout front → ⊥) where
  module _ (dig : List ℕ → List ℕ) (anchors : List Thread) (strict : Bool) where
    pub verdict_behind : (verdict : Verdict) → IsVerdict dig anchors strict front verdict → IsVerdict dig anchors strict
        (front ++ more) verdict
    verdict_behind (Yes report) is = absurd (nothing_here proof_layout front more broken is.0.0 is.0.1)
    verdict_behind (No reason) is = by is.1.stands
      where
        by : Stands dig anchors strict front reason → IsVerdict dig anchors strict (front ++ more) (No reason)
        by (inl none) =
            subst (λ r. IsVerdict dig anchors strict (front ++ more) (No r)) (sym none.1.2)
            (malformed_bytes dig anchors strict (front ++ more) none.1.0 (nothing_behind proof_layout front more broken)
            (place_behind proof_layout front more broken none.1.0 none.1.1))
        by (inr proof) = absurd (nothing_here proof_layout front more broken proof.0 proof.1)

    pub binds_behind : (verdict : Verdict) → BindsHistories dig anchors front verdict → BindsHistories dig anchors
        (front ++ more) verdict
    binds_behind (Yes report) binds = λ p spelled. absurd (nothing_behind proof_layout front more broken p spelled)
    binds_behind (No reason) binds = tt
