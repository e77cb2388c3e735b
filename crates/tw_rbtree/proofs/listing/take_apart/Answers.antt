use Rattle.std.proofs.Common.{refl}
use Rattle.tw_rbtree.proofs.ListLaws.{is-split}
use Rattle.tw_rbtree.proofs.listing.take_apart.Goals as goal

pub returns : goal.returns
returns c = is-split c.args.node.now c.args.part _ _ c.entry_at-entry.result c.requires.some c.requires.part
    c.below-left.ensures c.entry_at-entry.ensures refl refl refl refl
