-- A chain with a hop more.
use Rattle.std.proofs.Common.{◌≡◌, ℕ, suc, ◌+◌, List, [], ◌∷◌, ◌++◌, length, refl, sym, ap, ◌∙◌, append_assoc, arith}
use Rattle.std.specs.Prelude.{Option, Some, None, reverse, if◌then◌else◌}
use Rattle.std.specs.List.{flat_map}
use Rattle.std.proofs.lemmas.List.{append-nil, reverse-append}
use Rattle.std.proofs.Math.Nat.{add-zero}
use Rattle.std.proofs.lemmas.Grind.{flat_map-append}
use Rattle.tw_base.specs.declared.history.report.Claim.{Claim}
use Rattle.tw_base.specs.declared.history.report.Hop.{Hop}
use Rattle.tw_base.specs.declared.history.report.Reason.{Reason}
use Rattle.tw_base.specs.declared.history.thread.Thread.{Thread}
use Rattle.tw_verifier.specs.declared.chain.Chain.{Chain}
use Rattle.tw_verifier.specs.declared.judgement.Judgement.{Judgement}
use Rattle.tw_chain.specs.declared.proof.HopPart.{HopPart}
use Rattle.tw_chain.specs.declared.proof.Tail.{Tail}
use Rattle.tw_chain.specs.Accepting.{hops_to}
use Rattle.tw_chain.specs.Finding.{found_in, lower_of, passes, reason_with}
use Rattle.tw_verifier.specs.Chaining.{behind_checks, closed, with_hop}
use Rattle.tw_chain.specs.Checks.{Check, hop_checks, hops_checks, last_hop_thread, opening_root, tail_checks}
use Rattle.tw_chain.specs.Passing.{carried_by, reason_of}
use Rattle.tw_chain.proofs.FoundSteps.{found-append}
use Rattle.tw_chain.proofs.LowerSteps.{lower-assoc}

module _ (dig : List ℕ → List ℕ) (anchors : List Thread) where
  module _ (c : Chain) (hop : HopPart) (hops : List HopPart) (tail : Tail) (more : ℕ) where
    abbrev here : List Check
    here = hop_checks c.part c.known.step (opening_root c.opening) hop

    behind-hop : behind_checks c (hop ∷ hops) tail ≡ here ++ behind_checks (with_hop dig anchors c hop more) hops tail
    behind-hop =
        let after : List Check = hops_checks (suc c.part) hop.entry.thread.step (opening_root hop.opening) hops in
        let last : Thread = last_hop_thread hop.entry.thread hops in
        let part : c.part + suc (length hops) ≡ suc c.part + length hops = omega arith in
        append_assoc here after (tail_checks (c.part + suc (length hops)) last tail)
        ∙ ap (λ n. here ++ (after ++ tail_checks n last tail)) part

    found-hop : reason_with dig anchors c.found (behind_checks c (hop ∷ hops) tail)
        ≡ reason_with dig anchors (reason_with dig anchors c.found here)
        (behind_checks (with_hop dig anchors c hop more) hops tail)
    found-hop =
        ap (reason_with dig anchors c.found) behind-hop
        ∙ ap (lower_of c.found) (found-append dig anchors here (behind_checks (with_hop dig anchors c hop more) hops
        tail))
        ∙ sym (lower-assoc c.found (found_in dig anchors here)
        (found_in dig anchors (behind_checks (with_hop dig anchors c hop more) hops tail)))

    hops-hop : (one : Hop) (onward : List Hop) → (onward ++ one ∷ []) ++ reverse c.hops ≡ onward ++ reverse
        (c.hops ++ one ∷ [])
    hops-hop one onward = append_assoc onward (one ∷ []) (reverse c.hops) ∙ ap (λ r. onward ++ r)
        (sym (reverse-append c.hops (one ∷ [])))

    carried-hop : c.carried ++ flat_map carried_by (behind_checks c (hop ∷ hops) tail)
        ≡ (c.carried ++ flat_map carried_by here) ++ flat_map carried_by
        (behind_checks (with_hop dig anchors c hop more) hops tail)
    carried-hop =
        ap (λ (cs : List Check). c.carried ++ flat_map carried_by cs) behind-hop
        ∙ ap (λ r. c.carried ++ r) (flat_map-append carried_by here (behind_checks (with_hop dig anchors c hop more)
        hops tail))
        ∙ sym (append_assoc c.carried (flat_map carried_by here)
        (flat_map carried_by (behind_checks (with_hop dig anchors c hop more) hops tail)))

    abbrev judgement : (claim : Claim) (found : Option Reason) (hops : List Hop) (carried : List Thread) → Judgement
    judgement claim found hops carried =
        record { found = found; report = record { claim = claim; hops = hops; carried = carried } }

    pub closed-hop : closed dig anchors c (hop ∷ hops) tail ≡ closed dig anchors (with_hop dig anchors c hop more) hops
        tail
    closed-hop =
        let one : Hop =
        record {
          from = hop.entry.thread.from;
          step = hop.entry.thread.step;
          by = c.known.from;
          archived = hop.entry.archived;
        } in
        let claim : Claim = (closed dig anchors c (hop ∷ hops) tail).report.claim in
        ap (λ f. judgement claim f ((hops_to hop.entry.thread.from hops ++ one ∷ []) ++ reverse c.hops)
        (reverse (c.carried ++ flat_map carried_by (behind_checks c (hop ∷ hops) tail)))) found-hop
        ∙ ap (λ hs. judgement claim (reason_with dig anchors (reason_with dig anchors c.found here)
        (behind_checks (with_hop dig anchors c hop more) hops tail)) hs
        (reverse (c.carried ++ flat_map carried_by (behind_checks c (hop ∷ hops) tail))))
        (hops-hop one (hops_to hop.entry.thread.from hops))
        ∙ ap (λ cs. judgement claim (reason_with dig anchors (reason_with dig anchors c.found here)
        (behind_checks (with_hop dig anchors c hop more) hops tail)) (hops_to hop.entry.thread.from hops ++ reverse
        (c.hops ++ one ∷ [])) (reverse cs)) carried-hop

  module _ (c : Chain) (tail : Tail) where
    abbrev ended : (found : Option Reason) (carried : List Thread) → Judgement
    ended found carried = record {
      found = found;
      report = record {
        claim = (closed dig anchors c [] tail).report.claim;
        hops = reverse c.hops;
        carried = reverse carried;
      };
    }

    -- with no hop to come it is the tail that is left
    pub closed-ended : ended (reason_with dig anchors c.found (tail_checks c.part c.known tail)) c.carried ≡ closed dig
        anchors c [] tail
    closed-ended =
        ap (λ (n : ℕ). ended (reason_with dig anchors c.found (tail_checks n c.known tail)) c.carried)
        (sym (add-zero c.part))
        ∙ ap (ended (reason_with dig anchors c.found (tail_checks (c.part + 0) c.known tail)))
        (sym (append-nil c.carried))
