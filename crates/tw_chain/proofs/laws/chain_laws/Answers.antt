use Rattle.tw_chain.proofs.Headline.{headline}
use Rattle.tw_chain.proofs.HeldServices.{accepted-holds}
use Rattle.tw_chain.proofs.ProofTextBytes.{proof_texts-bytes}
use Rattle.tw_chain.proofs.laws.chain_laws.Goals as goal

pub returns : goal.returns
returns g c = record {
  headline = λ bytes p anchors. headline g.H.Hasher.dig g.met.H.Hasher.size g.met.H.Hasher.bytes anchors bytes p;
  texts = proof_texts-bytes g.H.Hasher.dig g.met.H.Hasher.size g.met.H.Hasher.bytes;
  held = λ p anchors. accepted-holds anchors g.H.Hasher.dig p;
}
