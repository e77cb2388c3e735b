-- The numbers of a proof that fits are within their ranges.
use Rattle.std.proofs.Common.{◌<◌, ◌≤◌, length}
use Rattle.tw_base.specs.declared.kinds.limits.TheConstants.{LAST_STEP, MOST_EVENTS, MOST_EVENT_BYTES, MOST_HOPS}
use Rattle.tw_base.specs.format.Codecs.{EachFits, behind, by_kind, each, number_codec, pair, seen, variant}
use Rattle.tw_skipproof.specs.declared.existence.ExistenceProof.{ExistenceProof}
use Rattle.tw_skipproof.specs.Codecs.{existence_codec}
use Rattle.tw_skipproof.specs.Existence.{IsExistenceInRange, IsPartInRange}
use Rattle.tw_skipproof.proofs.LawfulCodecs.{opening-few}
use Rattle.tw_skipproof.proofs.Shapes.{existence-shape, part-shape}
use Rattle.tw_chain.specs.declared.proof.AbsenceProof.{AbsenceProof}
use Rattle.tw_chain.specs.declared.proof.LinkProof.{LinkProof}
use Rattle.tw_chain.specs.declared.proof.PrecedenceProof.{PrecedenceProof}
use Rattle.tw_chain.specs.declared.proof.Proof.TheVariants.{Exists, Precedes, Archived, Absent, Linked}
use Rattle.tw_chain.specs.declared.proof.ThreadProof.{ThreadProof}
use Rattle.tw_chain.specs.Proofs.{absence_body, behind_codec, following, hop_bytes, hop_codec, hops_codec, kinds_codec}
use Rattle.tw_chain.specs.Proofs.{link_body, precedence_body, proof_codec, tail_codec, thread_body}
use Rattle.tw_verifier.proofs.StageLaws.{event-small}

pub existence-range : (p : ExistenceProof) → proof_codec.Fits (Exists p) → IsExistenceInRange p
unfolding proof_codec kinds_codec existence_codec behind by_kind variant number_codec
existence-range p fits = (existence-shape p fits.1.1).1

pub thread-range : (p : ThreadProof) → proof_codec.Fits (Archived p) → IsPartInRange p.at
unfolding proof_codec kinds_codec behind by_kind variant number_codec thread_body seen pair
thread-range p fits = (part-shape 0 p.at fits.1.1.0).1

pub absence-range : (p : AbsenceProof) → proof_codec.Fits (Absent p) → IsPartInRange p.at
unfolding proof_codec kinds_codec behind by_kind variant number_codec absence_body seen pair
absence-range p fits = (part-shape 0 p.at fits.1.1.0).1

pub link-top : (p : LinkProof) → proof_codec.Fits (Linked p) → p.top ≤ LAST_STEP
unfolding proof_codec kinds_codec behind by_kind variant number_codec link_body seen pair
link-top p fits = fits.1.1.1.1.0.1

-- the numbers of a proof from event to event
pub record AreInRange (p : PrecedenceProof) : Type 0 where
  pub above : 0 < p.head.step
  pub head : IsPartInRange p.head
  pub event : length p.event.event ≤ MOST_EVENT_BYTES
  pub few : length p.hops ≤ MOST_HOPS
  pub hops : EachFits hop_bytes hop_codec (following (length p.hops)) p.hops
  pub step : p.tail.step ≤ LAST_STEP
  pub count : p.tail.opening.count ≤ MOST_EVENTS
  pub first : length p.tail.event.event ≤ MOST_EVENT_BYTES

precedence-body : (p : PrecedenceProof) → proof_codec.Fits (Precedes p)
    → (length p.hops ≤ MOST_HOPS) × (hops_codec (length p.hops)).Fits p
unfolding proof_codec kinds_codec behind by_kind variant number_codec precedence_body
precedence-body p fits = (fits.1.1.0.1, fits.1.1.1)

pub precedence-range : (p : PrecedenceProof) → proof_codec.Fits (Precedes p) → AreInRange p
unfolding hops_codec behind_codec tail_codec seen pair each number_codec
precedence-range p fits =
    let body = precedence-body p fits in
    let shape = part-shape 1 p.head body.1.0 in
    let tail = body.1.1.1.1.1 in
    record {
      above = shape.0.step;
      head = shape.1;
      event = event-small p.head.opening.count p.event body.1.1.0;
      few = body.0;
      hops = body.1.1.1.1.0;
      step = tail.0.1;
      count = opening-few 1 p.tail.step p.tail.opening tail.1.1.0;
      first = event-small p.tail.opening.count p.tail.event tail.1.1.1;
    }
