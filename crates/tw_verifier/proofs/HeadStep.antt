-- The judgement of a proof from event to event is that of its chain.
use Rattle.std.proofs.Common.{◌≡◌, ℕ, suc, zero, ◌+◌, List, [], ◌∷◌, ◌++◌, length, refl, sym, ap, ◌∙◌, append_assoc}
use Rattle.std.proofs.Common.{arith}
use Rattle.std.specs.Prelude.{Option, Some, None, ◌-◌, reverse}
use Rattle.std.specs.List.{flat_map}
use Rattle.std.proofs.lemmas.Grind.{flat_map-append}
use Rattle.std.proofs.lemmas.List.{append-nil}
use Rattle.tw_base.specs.declared.history.report.Reason.{Reason}
use Rattle.tw_base.specs.declared.history.thread.Thread.{Thread}
use Rattle.tw_skipproof.specs.declared.opening.Opening.{Opening}
use Rattle.tw_chain.specs.declared.proof.PrecedenceProof.{PrecedenceProof}
use Rattle.tw_chain.specs.declared.proof.Proof.TheVariants.{Precedes}
use Rattle.tw_chain.specs.Finding.{found_in, lower_of, reason_with}
use Rattle.tw_verifier.specs.Chaining.{behind_checks, chain_of, closed}
use Rattle.tw_chain.specs.Checks.{Check, checks, end_of_order, head_checks, hops_checks, opening_checks, opening_root}
use Rattle.tw_chain.specs.Checks.{start_of, tail_checks}
use Rattle.tw_verifier.specs.Judgements.{judgement_of}
use Rattle.tw_chain.specs.Passing.{carried_by}
use Rattle.tw_base.specs.declared.history.report.Hop.{Hop}
use Rattle.tw_verifier.specs.declared.judgement.Judgement.{Judgement}
use Rattle.tw_chain.specs.Accepting.{claim_of, hops_to}
use Rattle.tw_chain.proofs.FoundSteps.{found-append}

pub carried-opening : (part : ℕ) (t : Thread) (o : Option Opening) → flat_map carried_by (opening_checks part t o) ≡ []
carried-opening part t None = refl
carried-opening part t (Some o) = refl

pub carried-head : (p : PrecedenceProof) (more : List Check) → flat_map carried_by (head_checks p ++ more) ≡ flat_map
    carried_by more
carried-head p more =
    flat_map-append carried_by (head_checks p) more
    ∙ ap (λ r. r ++ flat_map carried_by more)
    (carried-opening 0 (record { from = p.head.service; step = p.head.step - 1; auth = p.head.opening.prev }) p.before)

module _ (dig : List ℕ → List ℕ) (anchors : List Thread) (p : PrecedenceProof) where
  abbrev behind : List Check
  behind = behind_checks (chain_of dig anchors p) p.hops p.tail

  parts : checks (Precedes p) ≡ head_checks p ++ behind
  parts =
      let part : suc (length p.hops) ≡ 1 + length p.hops = omega arith in
      ap (λ n. head_checks p ++ (hops_checks 1 (start_of p).step (opening_root p.before) p.hops ++ tail_checks n
      (end_of_order p) p.tail)) part

  abbrev judgement : (found : Option Reason) (hops : List Hop) (carried : List Thread) → Judgement
  judgement found hops carried =
      record { found = found; report = record { claim = claim_of (Precedes p); hops = hops; carried = carried } }

  pub judgement-chain : judgement_of dig anchors (Precedes p) ≡ closed dig anchors (chain_of dig anchors p) p.hops
      p.tail
  judgement-chain =
      ap (λ f. judgement f (hops_to p.head.service p.hops) (reverse (flat_map carried_by (checks (Precedes p)))))
      (ap (found_in dig anchors) parts ∙ found-append dig anchors (head_checks p) behind)
      ∙ ap (λ hs. judgement (reason_with dig anchors (found_in dig anchors (head_checks p)) behind) hs
      (reverse (flat_map carried_by (checks (Precedes p)))))
      (sym (append-nil (hops_to p.head.service p.hops)))
      ∙ ap (λ cs. judgement (reason_with dig anchors (found_in dig anchors (head_checks p)) behind)
      (hops_to p.head.service p.hops ++ []) (reverse cs))
      (ap (flat_map carried_by) parts ∙ carried-head p behind)
