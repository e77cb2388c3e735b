use Rattle.tw_rbnode.proofs.ChildLaws.{added_children}
use Rattle.tw_rbnode.proofs.adding.add.Goals as goal

pub returns-else-len-lt24-clause-kinds : goal.returns-else-len-lt24-clause-kinds
returns-else-len-lt24-clause-kinds g c = λ all.
    added_children g.H.Hasher.dig c.args.node.now c.args.place c.args.entry c.args.left c.args.right c.split.result
    c.split.ensures c.requires.left c.requires.right all
