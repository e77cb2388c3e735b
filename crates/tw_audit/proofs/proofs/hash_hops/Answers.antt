use Rattle.std.proofs.Common.{sym, subst}
use Rattle.tw_audit.specs.Shapes.{IsHopShaped}
use Rattle.tw_audit.proofs.LoopLaws.{each-at}
use Rattle.tw_audit.proofs.proofs.hash_hops.Goals as goal

pub hash_hop-requires : goal.hash_hop-requires
hash_hop-requires g c = subst IsHopShaped (sym c.hop-item.is) (each-at IsHopShaped c.args.hops.now c.loop-hop.hop-index
    c.hop-item.result c.loop-hop-test.true c.requires)
