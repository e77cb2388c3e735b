use Rattle.std.proofs.Common.{length, ◌<◌, ℕ, subst, sym, slice_get, arith}
use Rattle.std.proofs.lemmas.Option.{slice_get_within}
use Rattle.tw_rbnode.proofs.Places.{JoinsRight, kept_right, turned_outer_right, turned_inner_right, not_false}
use Rattle.tw_rbnode.proofs.links.settle_right.Goals as goal

pub returns-then-outer : goal.returns-then-outer
returns-then-outer c = λ base red l r tree.
    let P : ℕ → Type 0 = JoinsRight (slice_get c.args.links.now) (slice_get c.turn.new.links) base red l r in
    subst P (sym c.turn.ensures.top) (turned_outer_right _ _ base red l r c.args.at c.link_at-node.result
    c.link_at-child.result c.link_at-outer.result c.link_at-other.result tree
    c.link_at-node.ensures c.link_at-child.ensures c.link_at-outer.ensures c.link_at-other.ensures c.if-node.false
    (not_false _ c.if-not-child.false) c.if-outer.true c.if-other.false
    c.turn.ensures.x c.turn.ensures.y c.turn.ensures.z c.turn.ensures.others)

pub turn-requires-then-inner-clause-last : goal.turn-requires-then-inner-clause-last
turn-requires-then-inner-clause-last c =
    let within : c.link_at-node.result.right < length c.args.links.now = slice_get_within _ _ _ c.link_at-child.ensures
    in
    grind arith

pub returns-then-inner : goal.returns-then-inner
returns-then-inner c = λ base red l r tree.
    let P : ℕ → Type 0 = JoinsRight (slice_get c.args.links.now) (slice_get c.turn-then-inner.new.links) base red l r in
    subst P (sym c.turn-then-inner.ensures.top) (turned_inner_right _ _ base red l r c.args.at c.link_at-node.result
    c.link_at-child.result c.link_at-outer.result c.link_at-inner.result c.link_at-other.result tree
    c.link_at-node.ensures c.link_at-child.ensures c.link_at-outer.ensures c.link_at-inner.ensures
    c.link_at-other.ensures c.if-node.false (not_false _ c.if-not-child.false) c.if-outer.false c.if-inner.true
    c.if-other-2.false
    c.turn-then-inner.ensures.x c.turn-then-inner.ensures.y c.turn-then-inner.ensures.z
    c.turn-then-inner.ensures.others)

pub returns : goal.returns
returns c = λ base red l r tree.
    kept_right _ base red l r c.args.at c.link_at-node.result c.link_at-child.result c.link_at-outer.result
    c.link_at-inner.result tree
    c.link_at-node.ensures c.link_at-child.ensures c.link_at-outer.ensures c.link_at-inner.ensures c.if-outer.false
    c.if-inner.false
