use Rattle.tw_base.proofs.lemmas.format.TakeLaws.{takes-front}
use Rattle.tw_chain.specs.Proofs.{proof_codec}
use Rattle.tw_chain.proofs.ProofCodec.{proof-lawful}
use Rattle.tw_chain.proofs.reading.read_first.Goals as goal

pub returns : goal.returns
returns c = takes-front proof_codec proof-lawful (λ p. p) c.args.bytes.now _ _ _ c.take_proof-read.ensures
    c.front_to.ensures
