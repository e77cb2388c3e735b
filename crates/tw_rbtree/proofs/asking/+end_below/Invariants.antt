use Rattle.tw_rbtree.proofs.asking.+end_below.Given as goal

abbrev pub decreases-end_below : goal.decreases-end_below
decreases-end_below g l = l.node.now.level
