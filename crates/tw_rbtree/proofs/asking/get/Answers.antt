use Rattle.tw_rbtree.proofs.Besides.{met-has}
use Rattle.tw_rbtree.proofs.asking.get.Goals as goal

pub returns-clause-key : goal.returns-clause-key
returns-clause-key g c = met-has c.args.key.now c.in_ok-end.end.met c.in_ok-end.ensures.tells.0
