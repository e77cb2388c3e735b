use Rattle.tw_rbtree.proofs.proving.+shown_below.Given as goal

abbrev pub decreases-shown_below : goal.decreases-shown_below
decreases-shown_below g l = l.node.now.level
