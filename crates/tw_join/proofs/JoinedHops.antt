-- The hops of a proof that parts join to, and the steps that they come to.
use Rattle.std.proofs.Common.{◌≡◌, ℕ, ◌+◌, ◌≤◌, List, [], ◌∷◌, ◌++◌, length, refl, sym, ap, ◌∙◌, arith}
use Rattle.std.specs.Prelude.{reverse, Option, Some, None, Ok}
use Rattle.std.proofs.lemmas.List.{append-nil, append_assoc}
use Rattle.tw_base.specs.declared.kinds.limits.TheConstants.{MOST_HOPS}
use Rattle.tw_base.specs.declared.history.thread.Thread.{Thread}
use Rattle.tw_base.specs.kinds.Lists.{Each}
use Rattle.tw_skipproof.specs.declared.existence.ExistenceProof.{ExistenceProof}
use Rattle.tw_skipproof.specs.declared.opening.Opening.{Opening}
use Rattle.tw_chain.specs.declared.proof.HopPart.{HopPart}
use Rattle.tw_chain.specs.declared.proof.PrecedenceProof.{PrecedenceProof}
use Rattle.tw_chain.specs.declared.proof.Proof.{Proof}
use Rattle.tw_chain.specs.declared.proof.Proof.TheVariants.{Precedes}
use Rattle.tw_chain.specs.Accepting.{hop_from, hops_of, hops_to, report_of}
use Rattle.tw_chain.specs.Checks.{last_hop_thread}
use Rattle.tw_join.specs.Joining.{Joint, hop_of, hops_before, joined_proof, shown_hops, wanted}
use Rattle.tw_join.specs.Joining.Taken.{Nothing}
use Rattle.tw_chain.specs.Proofs.{last_step}
use Rattle.tw_join.proofs.JoinedParts.{JointsFit, joined-fits, joint_hops}

-- the thread of the last hop's parts, or the one before them all
abbrev pub come_to : Thread → List Joint → Thread
come_to start [] = start
come_to start (joint ∷ joints) = joint.thread.entry.thread

-- the hops of all parts come to the thread of the last ones
pub last-thread : (start : Thread) (joints : List Joint) (before : Option Opening) (hops : List HopPart)
    → last_hop_thread start (hops_before joints before hops).1 ≡ last_hop_thread (come_to start joints) hops
last-thread start [] before hops = refl
last-thread start (joint ∷ []) before hops = refl
last-thread start (joint ∷ more ∷ joints) before hops = last-thread start (more ∷ joints) (Some joint.thread.at.opening)
    (hop_of joint before ∷ hops)

pub last-step : (step : ℕ) (t : Thread) (hops : List HopPart) → t.step ≡ step
    → last_step step hops ≡ (last_hop_thread t hops).step
last-step step t [] is = sym is
last-step step t (hop ∷ hops) is = last-step hop.entry.thread.step hop.entry.thread hops refl

pub hops-count : (joints : List Joint) (before : Option Opening) (hops : List HopPart)
    → length (hops_before joints before hops).1 ≡ length joints + length hops
hops-count [] before hops = omega arith
hops-count (joint ∷ joints) before hops =
    omega (arith, hops-count joints (Some joint.thread.at.opening) (hop_of joint before ∷ hops))

module _ (P : Proof → Type 0) where
  pub joints-few : (second : ExistenceProof) (joints : List Joint) → JointsFit P second joints
      → length joints ≤ MOST_HOPS
  joints-few second [] fits = omega arith
  joints-few second (joint ∷ joints) fits = omega (arith, fits.1)

  -- they lead to the second event's service as the parts show
  told : (second : ExistenceProof) (joints : List Joint) (before : Option Opening) (hops : List HopPart)
      → JointsFit P second joints
      → hops_to second.at.service (hops_before joints before hops).1 ≡ hops_to (wanted second joints).from hops
      ++ joint_hops joints
  told second [] before hops fits = sym (append-nil (hops_to second.at.service hops))
  told second (joint ∷ joints) before hops fits =
      let hop : HopPart = hop_of joint before in
      told second joints (Some joint.thread.at.opening) (hop ∷ hops) fits.2
      ∙ append_assoc (hops_to joint.thread.entry.thread.from hops) (hop_from (wanted second joints).from hop ∷ [])
      (joint_hops joints)
      ∙ ap (λ by. hops_to joint.thread.entry.thread.from hops ++ (hop_from by hop ∷ joint_hops joints)) fits.0.service

pub each-unit : (parts : List Proof) → Each (λ part. Unit {0}) parts
each-unit [] = tt
each-unit (part ∷ parts) = (tt, each-unit parts)

-- the hops of the report are those that the parts show, turned around
pub joined-hops : (parts : List Proof) (p : PrecedenceProof) → joined_proof Nothing 1 parts ≡ Ok p
    → (report_of (Precedes p)).hops ≡ reverse (shown_hops parts)
joined-hops parts p is =
    let had = joined-fits (λ part. Unit {0}) parts p (each-unit parts) is in
    ap (λ (q : PrecedenceProof). hops_of (Precedes q)) had.is
    ∙ told (λ part. Unit {0}) had.second had.joints None [] had.fits.joints_fit
    ∙ had.shown ∙ append-nil (reverse (shown_hops parts))

-- at most 64
pub joined-few : (parts : List Proof) (p : PrecedenceProof) → joined_proof Nothing 1 parts ≡ Ok p
    → length p.hops ≤ MOST_HOPS
joined-few parts p is =
    let had = joined-fits (λ part. Unit {0}) parts p (each-unit parts) is in
    omega (
      arith,
      joints-few (λ part. Unit {0}) had.second had.joints had.fits.joints_fit,
      hops-count had.joints None [],
      ap (λ (q : PrecedenceProof). length q.hops) had.is,
    )
