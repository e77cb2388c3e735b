-- A proof from event to event, judged hop by hop: what stands behind a front of it that was judged.
use Rattle.std.specs.Prelude.{ℕ, suc, ◌+◌, List, [], ◌∷◌, ◌++◌, length, reverse, Option}
use Rattle.std.specs.List.{flat_map}
use Rattle.tw_base.specs.declared.history.report.Claim.TheVariants as claims
use Rattle.tw_base.specs.declared.history.report.Hop.{Hop}
use Rattle.tw_base.specs.declared.history.report.Reason.{Reason}
use Rattle.tw_base.specs.declared.history.thread.Thread.{Thread}
use Rattle.tw_base.specs.format.Codecs.{each_format}
use Rattle.tw_base.specs.format.Formats.{Format, then_by}
use Rattle.tw_base.specs.format.Formats.Format.{Done}
use Rattle.tw_verifier.specs.declared.chain.Chain.{Chain}
use Rattle.tw_verifier.specs.declared.judgement.Judgement.{Judgement}
use Rattle.tw_chain.specs.declared.proof.HopPart.{HopPart}
use Rattle.tw_chain.specs.declared.proof.PrecedenceProof.{PrecedenceProof}
use Rattle.tw_chain.specs.declared.proof.Tail.{Tail}
use Rattle.tw_chain.specs.Accepting.{hop_from, hops_to, seen_at}
use Rattle.tw_chain.specs.Checks.{Check, head_checks, hop_checks, hops_checks, last_hop_thread, opening_root, start_of, tail_at, tail_checks}
use Rattle.tw_chain.specs.Finding.{found_in, reason_with}
use Rattle.tw_chain.specs.Proofs.{following, hop_bytes, hop_codec, tail_codec}
use Rattle.tw_chain.specs.Passing.{carried_by}

-- the checks of the hops and the tail that stand behind a chain
abbrev pub behind_checks : Chain → List HopPart → Tail → List Check
behind_checks c hops tail =
    hops_checks c.part c.known.step (opening_root c.opening) hops ++ tail_checks (c.part + length hops) (last_hop_thread c.known hops) tail

module _ (dig : List ℕ → List ℕ) (anchors : List Thread) where
  -- the chain of a proof whose head was judged, before its hops
  abbrev pub chain_of : PrecedenceProof → Chain
  chain_of p = record {
    known = start_of p;
    opening = p.before;
    part = 1;
    more = length p.hops;
    found = found_in dig anchors (head_checks p);
    hops = [];
    carried = [];
    second = seen_at p.head p.event;
  }

  -- the chain with a hop more, behind which so many follow
  abbrev pub with_hop : Chain → HopPart → (more : ℕ) → Chain
  with_hop c hop more =
      let here : List Check = hop_checks c.part c.known.step (opening_root c.opening) hop in record {
        known = hop.entry.thread;
        opening = hop.opening;
        part = suc c.part;
        more = more;
        found = reason_with dig anchors c.found here;
        hops = c.hops ++ hop_from c.known.from hop ∷ [];
        carried = c.carried ++ flat_map carried_by here;
        second = c.second;
      }

  -- the judgement of the proof that has these hops and this tail behind the chain
  abbrev pub closed : Chain → List HopPart → Tail → Judgement
  closed c hops tail = record {
    found = reason_with dig anchors c.found (behind_checks c hops tail);
    report = record {
      claim = claims.Precedes (seen_at (tail_at (last_hop_thread c.known hops) tail) tail.event) c.second;
      hops = hops_to c.known.from hops ++ reverse c.hops;
      carried = reverse (c.carried ++ flat_map carried_by (behind_checks c hops tail));
    };
  }

  -- behind a chain stand its hops, and the tail under the thread that they come to
  unfoldable pub behind_chain : Chain → Format Judgement
  behind_chain c =
      then_by (each_format hop_bytes hop_codec (following c.more)) (λ hops.
      then_by (tail_codec (last_hop_thread c.known hops).step).format (λ tail. Done (closed c hops tail)))
