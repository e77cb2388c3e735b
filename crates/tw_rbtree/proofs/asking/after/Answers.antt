use Rattle.tw_rbtree.proofs.Besides.{high-above}
use Rattle.tw_rbtree.proofs.asking.after.Goals as goal

pub returns-clause-key : goal.returns-clause-key
returns-clause-key g c = high-above c.args.key.now c.in_ok-end.end.high c.in_ok-end.ensures.tells.1.1
