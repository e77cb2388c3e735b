use Rattle.tw_base.proofs.lemmas.format.PutLaws.{ManyPut}
use Rattle.tw_chain.specs.Proofs.{hop_bytes}
use Rattle.tw_chain.proofs.chain_writing.put_hops.Given as goal

abbrev pub invariant-loop-hop : goal.invariant-loop-hop
invariant-loop-hop l = ManyPut hop_bytes (λ hop. Unit {0}) l.initial.into l.into l.hops l.hop-index
