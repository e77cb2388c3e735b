use Rattle.tw_base.proofs.lemmas.format.CodecLaws.{unambiguous}
use Rattle.tw_evidence.specs.Evidence.{evidence_codec, link_proof_codec, thread_proof_codec}
use Rattle.tw_evidence.proofs.EvidenceCodec.{evidence-lawful, link-is-proof, link_proof-lawful, proof-is-link}
use Rattle.tw_evidence.proofs.EvidenceCodec.{proof-is-thread, thread-is-proof, thread_proof-lawful}
use Rattle.tw_evidence.proofs.EvidenceSizes.{evidence-size, link_proof-size, thread_proof-size}
use Rattle.tw_evidence.proofs.laws.evidence_laws.Goals as goal

pub returns : goal.returns
returns c = record {
  once = unambiguous evidence_codec evidence-lawful;
  size = evidence-size;
  thread_once = unambiguous thread_proof_codec thread_proof-lawful;
  link_once = unambiguous link_proof_codec link_proof-lawful;
  thread_size = thread_proof-size;
  link_size = link_proof-size;
  thread = λ bytes t. (thread-is-proof bytes t, proof-is-thread bytes t);
  link = λ bytes l. (link-is-proof bytes l, proof-is-link bytes l);
}
