use Rattle.std.proofs.Common.{◌+◌, ◌-◌, ◌*◌}
use Rattle.tw_rbtree.proofs.listing.+list_part.Given as goal

abbrev pub decreases-list_part : goal.decreases-list_part
decreases-list_part g l = l.node.now.level * 32 + (l.part.end - l.part.base)
