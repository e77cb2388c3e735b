use Rattle.tw_base.proofs.lemmas.format.TakeLaws.{takes-whole}
use Rattle.tw_evidence.specs.Evidence.{thread_proof_codec}
use Rattle.tw_evidence.proofs.EvidenceCodec.{thread_proof-lawful}
use Rattle.tw_evidence.proofs.reading.read_thread_proof.Goals as goal

pub returns : goal.returns
returns c = takes-whole thread_proof_codec thread_proof-lawful (λ p. p) c.args.bytes.now _ _ _
    c.take_thread_proof-read.ensures c.whole_to.ensures
