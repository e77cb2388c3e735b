use Rattle.tw_base.proofs.lemmas.format.TakeLaws.{takes-whole}
use Rattle.tw_chain.specs.Proofs.{proof_codec}
use Rattle.tw_chain.proofs.ProofCodec.{proof-lawful}
use Rattle.tw_chain.proofs.reading.read_proof.Goals as goal

pub returns : goal.returns
returns c = takes-whole proof_codec proof-lawful (λ p. p) c.args.bytes.now _ _ _ c.take_proof-read.ensures
    c.whole_to.ensures
