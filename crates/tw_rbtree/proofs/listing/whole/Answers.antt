use Rattle.tw_rbtree.proofs.ListLaws.{whole-part}
use Rattle.tw_rbtree.proofs.listing.whole.Goals as goal

pub returns-clause-part : goal.returns-clause-part
returns-clause-part c = whole-part c.args.node.now c.keys.result c.top.result c.top.ensures c.keys.ensures.count
    c.keys.ensures.is_node
