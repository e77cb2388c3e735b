-- A proof carries no more threads than it has hops.
use Rattle.std.proofs.Common.{◌≡◌, ℕ, suc, ◌≤◌, List, [], ◌∷◌, ◌++◌, length, ap, ◌∙◌, arith, length-append}
use Rattle.std.specs.Prelude.{Bool, true, false, ◌==◌, if◌then◌else◌}
use Rattle.std.specs.List.{flat_map}
use Rattle.std.proofs.lemmas.Grind.{flat_map-append}
use Rattle.std.proofs.lemmas.List.{append-nil}
use Rattle.tw_base.specs.declared.kinds.limits.TheConstants.{MOST_HOPS}
use Rattle.tw_base.specs.declared.history.thread.Thread.{Thread}
use Rattle.tw_base.specs.format.Codecs.{behind, by_kind, number_codec, variant}
use Rattle.tw_base.specs.format.Formats.{Spells}
use Rattle.tw_base.proofs.lemmas.format.CodecLaws.{spelled-fits}
use Rattle.tw_chain.specs.declared.proof.HopPart.{HopPart}
use Rattle.tw_chain.specs.declared.proof.PrecedenceProof.{PrecedenceProof}
use Rattle.tw_chain.specs.declared.proof.Proof.{Proof}
use Rattle.tw_chain.specs.declared.proof.Proof.TheVariants.{Exists, Precedes, Archived, Absent, Linked}
use Rattle.tw_chain.specs.Accepting.{carried}
use Rattle.tw_chain.specs.Checks.{Check, bind_checks, bind_of, end_of_order, hop_checks, hops_checks, link_checks}
use Rattle.tw_chain.specs.Checks.{opening_checks, opening_root, start_of, tail_checks}
use Rattle.tw_chain.specs.Checks.Check.{CarriesThread}
use Rattle.tw_chain.specs.Passing.{carried_by}
use Rattle.tw_chain.specs.Proofs.{kinds_codec, precedence_body, proof_codec, proof_layout}
use Rattle.tw_verifier.proofs.HeadStep.{carried-head, carried-opening}
use Rattle.tw_chain.proofs.ProofCodec.{proof-lawful}

abbrev carried_of : List Check → List Thread
carried_of = flat_map carried_by

carried-bind : (part : ℕ) (hop : HopPart) → length (carried_of (bind_checks part hop)) ≤ 1
carried-bind part hop = by (hop.bind == 0)
  where
    by : (carries : Bool)
        → length (carried_of (if carries then CarriesThread hop.entry.thread ∷ [] else link_checks part (bind_of hop)))
        ≤ 1
    by true = omega arith
    by false = omega arith

carried-hop : (part step : ℕ) (root : List ℕ) (hop : HopPart) → length (carried_of (hop_checks part step root hop)) ≤ 1
carried-hop part step root hop =
    let opening : List Check = opening_checks part hop.entry.thread hop.opening in
    let same : carried_of (bind_checks part hop ++ opening) ≡ carried_of (bind_checks part hop) =
    flat_map-append carried_by (bind_checks part hop) opening
    ∙ ap (λ r. carried_of (bind_checks part hop) ++ r) (carried-opening part hop.entry.thread hop.opening)
    ∙ append-nil (carried_of (bind_checks part hop)) in
    let few = carried-bind part hop in
    omega (arith, few, ap length same)

carried-hops : (part step : ℕ) (root : List ℕ) (hops : List HopPart)
    → length (carried_of (hops_checks part step root hops)) ≤ length hops
carried-hops part step root [] = omega arith
carried-hops part step root (hop ∷ hops) =
    let here : List Check = hop_checks part step root hop in
    let behind : List Check = hops_checks (suc part) hop.entry.thread.step (opening_root hop.opening) hops in
    omega (
      arith,
      carried-hop part step root hop,
      carried-hops (suc part) hop.entry.thread.step (opening_root hop.opening) hops,
      ap length (flat_map-append carried_by here behind),
      length-append (carried_of here) (carried_of behind),
    )

carried-chain : (p : PrecedenceProof) → length (carried (Precedes p)) ≤ length p.hops
carried-chain p =
    let hops : List Check = hops_checks 1 (start_of p).step (opening_root p.before) p.hops in
    let tail : List Check = tail_checks (suc (length p.hops)) (end_of_order p) p.tail in
    let same : carried (Precedes p) ≡ carried_of hops =
    carried-head p (hops ++ tail) ∙ flat_map-append carried_by hops tail ∙ append-nil (carried_of hops) in
    omega (arith, carried-hops 1 (start_of p).step (opening_root p.before) p.hops, ap length same)

most-hops : (p : PrecedenceProof) → proof_codec.Fits (Precedes p) → length p.hops ≤ MOST_HOPS
unfolding proof_codec kinds_codec behind by_kind variant precedence_body number_codec
most-hops p fits = fits.1.1.0.1

-- a proof that bytes spell carries at most as many threads as there may be hops
pub few-carried : (bytes : List ℕ) (p : Proof) → Spells proof_layout bytes p → length (carried p) ≤ MOST_HOPS
few-carried bytes (Exists p) spelled = omega arith
few-carried bytes (Precedes p) spelled =
    omega (arith, carried-chain p, most-hops p (spelled-fits proof_codec proof-lawful bytes (Precedes p) spelled))
few-carried bytes (Archived p) spelled = omega arith
few-carried bytes (Absent p) spelled = omega arith
few-carried bytes (Linked p) spelled = omega arith
