use Rattle.tw_atlas.proofs.EndsLaws.{ends-more}
use Rattle.tw_atlas.proofs.ordering.ordered_ends.Goals as goal

pub loop-hop-preserved : goal.loop-hop-preserved
loop-hop-preserved c =
    ends-more c.args.hops.now c.loop-hop.hop-index c.hop-item.result c.loop-hop.all.entries c.insert.new.self.entries
    c.source.result c.target.result c.loop-hop-test.true
    c.hop-item.is c.loop-hop.invariant c.source.ensures c.target.ensures c.in_ok-insert.ensures.entries
