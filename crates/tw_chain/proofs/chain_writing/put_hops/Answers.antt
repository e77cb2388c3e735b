use Rattle.tw_base.proofs.lemmas.format.PutLaws.{put-all, put-more, put-none}
use Rattle.tw_chain.specs.Proofs.{hop_bytes}
use Rattle.tw_chain.proofs.chain_writing.put_hops.Goals as goal

pub loop-hop-init : goal.loop-hop-init
loop-hop-init c = put-none hop_bytes (λ hop. Unit {0}) c.args.into.now c.args.hops.now

pub loop-hop-preserved : goal.loop-hop-preserved
loop-hop-preserved c =
    put-more hop_bytes (λ hop. Unit {0}) c.args.into.now c.loop-hop.into _ c.args.hops.now c.loop-hop.hop-index
    c.hop-item.result c.loop-hop-test.true c.hop-item.is
    c.loop-hop.invariant c.in_ok-put_hop.ensures tt

pub returns : goal.returns
returns c = (put-all hop_bytes (λ hop. Unit {0}) c.args.into.now c.loop-hop.into c.args.hops.now c.loop-hop.hop-index
    c.loop-hop-test.false c.loop-hop.invariant).0
