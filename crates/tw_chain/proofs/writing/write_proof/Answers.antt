use Rattle.tw_base.proofs.lemmas.format.PutLaws.{put-whole}
use Rattle.tw_chain.specs.Proofs.{proof_codec}
use Rattle.tw_chain.proofs.ProofCodec.{proof-lawful}
use Rattle.tw_chain.proofs.writing.write_proof.Goals as goal

pub returns-clause-spelled : goal.returns-clause-spelled
returns-clause-spelled c = λ fits. (put-whole proof_codec proof-lawful c.args.proof.now _ _ c.new-bytes.ensures
    (c.in_ok-put_proof.ensures, fits)).1
