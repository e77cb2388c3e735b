use Rattle.tw_rbtree.proofs.Besides.{low-below}
use Rattle.tw_rbtree.proofs.asking.before.Goals as goal

pub returns-clause-key : goal.returns-clause-key
returns-clause-key g c = low-below c.args.key.now c.in_ok-end.end.low c.in_ok-end.ensures.tells.1.0
