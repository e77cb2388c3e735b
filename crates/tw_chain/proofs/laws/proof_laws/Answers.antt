use Rattle.tw_base.proofs.lemmas.format.CodecLaws.{unambiguous}
use Rattle.tw_chain.specs.Proofs.{proof_codec}
use Rattle.tw_chain.proofs.ProofCodec.{proof-lawful}
use Rattle.tw_chain.proofs.ProofSizes.{proof-small}
use Rattle.tw_chain.proofs.laws.proof_laws.Goals as goal

pub returns-clause-once : goal.returns-clause-once
returns-clause-once c = unambiguous proof_codec proof-lawful

pub returns-clause-small : goal.returns-clause-small
returns-clause-small c = proof-small
