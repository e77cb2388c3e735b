use Rattle.tw_rbtree.proofs.inserting.+grow_below.Given as goal

abbrev pub decreases-grow_below : goal.decreases-grow_below
decreases-grow_below g l = l.node.now.level
