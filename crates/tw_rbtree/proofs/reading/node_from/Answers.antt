use Rattle.tw_rbtree.proofs.PageLaws.{bytes-are, bytes-none}
use Rattle.tw_rbtree.proofs.reading.node_from.Goals as goal

pub returns-in-Some-clause-answer : goal.returns-in-Some-clause-answer
returns-in-Some-clause-answer g c =
    let is = c.in-Some.ensures in bytes-are g.H.Hasher.dig c.args.page c.args.bytes.now c.in-Some.node is.0 is.1

pub returns-in-None-clause-answer : goal.returns-in-None-clause-answer
returns-in-None-clause-answer g c = bytes-none g.H.Hasher.dig c.args.page c.args.bytes.now c.in-None.ensures
