use Rattle.tw_base.proofs.lemmas.format.TakeLaws.{takes-whole}
use Rattle.tw_evidence.specs.Evidence.{link_proof_codec}
use Rattle.tw_evidence.proofs.EvidenceCodec.{link_proof-lawful}
use Rattle.tw_evidence.proofs.reading.read_link_proof.Goals as goal

pub returns : goal.returns
returns c = takes-whole link_proof_codec link_proof-lawful (λ p. p) c.args.bytes.now _ _ _
    c.take_link_proof-read.ensures c.whole_to.ensures
