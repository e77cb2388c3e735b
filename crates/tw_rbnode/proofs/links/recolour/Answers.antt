use Rattle.tw_rbnode.proofs.Growing.{recoloured_at}
use Rattle.tw_rbnode.proofs.links.recolour.Goals as goal

pub returns : goal.returns
returns c = λ base l r tree rl rr.
    recoloured_at _ _ _ _ base l r c.args.at c.link_at-node.result c.link_at-left.result c.link_at-right.result tree
    c.link_at-node.ensures c.link_at-left.ensures c.link_at-right.ensures rl rr
    c.put.ensures.there c.put.ensures.others c.put-2.ensures.there c.put-2.ensures.others c.put-3.ensures.there
    c.put-3.ensures.others
