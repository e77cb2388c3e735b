-- The tops that a proof names which parts join to.
use Rattle.std.proofs.Common.{◌≡◌, ℕ, suc, List, [], ◌∷◌, ◌++◌, length, refl, sym, ap, ◌∙◌}
use Rattle.std.specs.Prelude.{Bool, true, false, Option, Some, None, IfSome, Ok, ◌==◌, if◌then◌else◌}
use Rattle.std.specs.List.{flat_map}
use Rattle.std.specs.Option.{option_map_or}
use Rattle.std.proofs.lemmas.List.{append-nil, append_assoc}
use Rattle.std.proofs.lemmas.List.Concat.{flat_map-append}
use Rattle.tw_base.specs.declared.history.thread.Key.{Key}
use Rattle.tw_base.specs.declared.history.thread.Thread.{Thread}
use Rattle.tw_skipproof.specs.declared.existence.ExistenceProof.{ExistenceProof}
use Rattle.tw_skipproof.specs.declared.opening.Opening.{Opening}
use Rattle.tw_chain.specs.declared.proof.HopPart.{HopPart}
use Rattle.tw_chain.specs.declared.proof.LinkProof.{LinkProof}
use Rattle.tw_chain.specs.declared.proof.PrecedenceProof.{PrecedenceProof}
use Rattle.tw_chain.specs.declared.proof.Proof.{Proof}
use Rattle.tw_chain.specs.declared.proof.Proof.TheVariants.{Precedes, Linked}
use Rattle.tw_chain.specs.declared.proof.ThreadProof.{ThreadProof}
use Rattle.tw_chain.specs.Accepting.{named}
use Rattle.tw_chain.specs.Checks.{Check, bind_checks, bind_of, end_of_order, hops_checks, link_checks, opening_checks}
use Rattle.tw_chain.specs.Checks.{opening_root, start_of, tail_checks, top_of}
use Rattle.tw_chain.specs.Checks.Check.{CarriesThread}
use Rattle.tw_chain.specs.Passing.{needed_by}
use Rattle.tw_join.specs.Joining.{Joint, hop_of, hops_before, joined_of, joined_proof, link_tops, tops_of}
use Rattle.tw_join.specs.Joining.Taken.{Nothing}
use Rattle.tw_join.proofs.JoinedHops.{each-unit}
use Rattle.tw_join.proofs.JoinedParts.{JointsFit, LinkFits, joined-fits, joint_tops}

-- ---- the checks that need an anchor

-- no opening needs one
opening-tops : (part : ℕ) (t : Thread) (o : Option Opening) (rest : List Check)
    → flat_map needed_by (opening_checks part t o ++ rest) ≡ flat_map needed_by rest
opening-tops part t None rest = refl
opening-tops part t (Some o) rest = refl

-- a hop that is bound does
abbrev hop_tops : HopPart → List Key
hop_tops hop = if hop.bind == 0 then [] else record { from = hop.entry.thread.from; step = hop.bind } ∷ []

abbrev hops_tops : List HopPart → List Key
hops_tops [] = []
hops_tops (hop ∷ hops) = hop_tops hop ++ hops_tops hops

bind-tops : (part : ℕ) (hop : HopPart) → flat_map needed_by (bind_checks part hop) ≡ hop_tops hop
bind-tops part hop = by (hop.bind == 0)
  where
    by : (b : Bool) → flat_map needed_by (if b then CarriesThread hop.entry.thread ∷ [] else link_checks part
        (bind_of hop))
        ≡ (if b then [] else record { from = hop.entry.thread.from; step = hop.bind } ∷ [])
    by true = refl
    by false = refl

hops-tops : (part step : ℕ) (root : List ℕ) (hops : List HopPart) → flat_map needed_by (hops_checks part step root hops)
    ≡ hops_tops hops
hops-tops part step root [] = refl
hops-tops part step root (hop ∷ hops) =
    let t : Thread = hop.entry.thread in
    let bind : List Check = bind_checks part hop in
    let opening : List Check = opening_checks part t hop.opening in
    let onward : List Check = hops_checks (suc part) t.step (opening_root hop.opening) hops in
    ap (flat_map needed_by) (append_assoc bind opening onward)
    ∙ flat_map-append needed_by bind (opening ++ onward)
    ∙ ap (λ (ks : List Key). ks ++ flat_map needed_by (opening ++ onward)) (bind-tops part hop)
    ∙ ap (λ (ks : List Key). hop_tops hop ++ ks) (opening-tops part t hop.opening onward ∙ hops-tops (suc part) t.step
    (opening_root hop.opening) hops)

-- ---- of hops that are made of parts

module _ (P : Proof → Type 0) where
  joint-tops : (t : ThreadProof) (link : Option LinkProof) (before : Option Opening)
      → IfSome link (LinkFits P t.entry.thread)
      → hop_tops (hop_of (record { thread = t; link = link }) before) ≡ option_map_or (λ l. link_tops (Linked l ∷ []))
      link []
  joint-tops t None before fits = refl
  joint-tops t (Some l) before fits =
      ap (λ (from : List ℕ). if l.top == 0 then [] else record { from = from; step = l.top } ∷ []) fits.from

  joints-tops : (second : ExistenceProof) (joints : List Joint) (before : Option Opening) (hops : List HopPart)
      → JointsFit P second joints
      → hops_tops (hops_before joints before hops).1 ≡ joint_tops joints ++ hops_tops hops
  joints-tops second [] before hops fits = refl
  joints-tops second (joint ∷ joints) before hops fits =
      let hop : HopPart = hop_of joint before in
      joints-tops second joints (Some joint.thread.at.opening) (hop ∷ hops) fits.2
      ∙ sym (append_assoc (joint_tops joints) (hop_tops hop) (hops_tops hops))
      ∙ ap (λ (ks : List Key). (joint_tops joints ++ ks) ++ hops_tops hops) (joint-tops joint.thread joint.link before
      fits.0.link)

  whole-tops : (second : ExistenceProof) (joints : List Joint) (first : ExistenceProof) → JointsFit P second joints
      → named (Precedes (joined_of second joints first)) ≡ top_of second.at ∷ joint_tops joints
  whole-tops second joints first fits =
      let p : PrecedenceProof = joined_of second joints first in
      let hops : List Check = hops_checks 1 (start_of p).step (opening_root p.before) p.hops in
      let tail : List Check = tail_checks (suc (length p.hops)) (end_of_order p) p.tail in
      ap (λ (ks : List Key). top_of second.at ∷ ks)
      (opening-tops 0 (start_of p) p.before (hops ++ tail) ∙ flat_map-append needed_by hops tail ∙ append-nil
      (flat_map needed_by hops)
      ∙ hops-tops 1 (start_of p).step (opening_root p.before) p.hops ∙ joints-tops second joints None [] fits
      ∙ append-nil (joint_tops joints))

-- those of the first part and of the links
pub joined-tops : (parts : List Proof) (p : PrecedenceProof) → joined_proof Nothing 1 parts ≡ Ok p
    → named (Precedes p) ≡ tops_of parts
joined-tops parts p is =
    let had = joined-fits (λ part. Unit {0}) parts p (each-unit parts) is in
    ap (λ (q : PrecedenceProof). named (Precedes q)) had.is
    ∙ whole-tops (λ part. Unit {0}) had.second had.joints had.first had.fits.joints_fit ∙ had.tops
