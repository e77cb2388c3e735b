use Rattle.tw_tmap.proofs.MapBinds.{verdict-binds}
use Rattle.tw_tmap.proofs.MapCodec.{high-fields, low-fields}
use Rattle.tw_tmap.proofs.checking.check_map.Goals as goal

pub returns-clause-binds : goal.returns-clause-binds
returns-clause-binds g c =
    verdict-binds g.H.Hasher.dig g.met.H.Hasher.size g.met.H.Hasher.bytes c.args.anchors.now c.args.low.now
    c.args.high.now (low-fields c.args.low.now c.requires.low)
    (high-fields c.args.high.now c.requires.high) c.verdict.result c.verdict.ensures
