use Rattle.std.proofs.Common.{◌≡◌, ◌<◌, ◌+◌, ◌-◌, slice_get, arith}
use Rattle.tw_rbnode.specs.Shape.{size, grown_shape}
use Rattle.tw_rbnode.proofs.Growing.{gap_node, on_left, on_right, left_joined, right_joined, grows_left, grows_right}
use Rattle.tw_rbnode.proofs.links.+grow.Goals as goal

pub grow-left-requires : goal.grow-left-requires
grow-left-requires t c =
    let node = gap_node _ c.args.low c.args.high c.requires.0 c.args.at c.args.place c.requires.1 c.if-at-eq0.false in
    let o = on_left _ c.args.low c.args.high node.0 node.1 node.2 c.args.at c.args.place c.link_at-node.result node.3
    c.link_at-node.ensures c.if-place-at.true in
    let at_is : c.args.at ≡ c.args.low + size node.1 + 2 = o.at_is in
    let whole : c.args.high ≡ c.args.low + (size node.1 + 1 + size node.2) = node.3.high_is in
    let less : c.args.at - 2 + 1 - c.args.low < t = omega (arith, c.decreases) in
    (less, (node.1, o.gap))

pub settle_left-requires : goal.settle_left-requires
settle_left-requires t c =
    let node = gap_node _ c.args.low c.args.high c.requires.0 c.args.at c.args.place c.requires.1 c.if-at-eq0.false in (
      c.args.low,
      node.0,
      (grown_shape (c.args.place - c.args.low) node.1),
      node.2,
      left_joined _ (slice_get c.grow-left.new.links) _ c.args.low c.args.high node.0 node.1 node.2 c.args.at
          c.args.place c.grow-left.result c.link_at-node.result node.3 c.link_at-node.ensures c.if-place-at.true
          c.grow-left.ensures c.put-then-place-at.ensures.there c.put-then-place-at.ensures.others,
    )

pub returns-then-place-at : goal.returns-then-place-at
returns-then-place-at t c = λ tree gap.
    grows_left _ (slice_get c.grow-left.new.links) (slice_get c.put-then-place-at.new.links) _ c.args.low c.args.high
    tree c.args.at c.args.place c.grow-left.result c.settle_left.result c.link_at-node.result gap c.if-at-eq0.false
    c.link_at-node.ensures c.if-place-at.true c.grow-left.ensures c.put-then-place-at.ensures.there
    c.put-then-place-at.ensures.others c.settle_left.ensures

pub grow-right-requires : goal.grow-right-requires
grow-right-requires t c =
    let node = gap_node _ c.args.low c.args.high c.requires.0 c.args.at c.args.place c.requires.1 c.if-at-eq0.false in
    let o = on_right _ c.args.low c.args.high node.0 node.1 node.2 c.args.at c.args.place c.link_at-node.result node.3
    c.link_at-node.ensures c.if-place-at.false in
    let at_is : c.args.at ≡ c.args.low + size node.1 + 1 = o.at_is in
    let whole : c.args.high ≡ c.args.low + (size node.1 + 1 + size node.2) = node.3.high_is in
    let less : c.args.high + 1 - c.args.at < t = omega (arith, c.decreases) in
    (less, (node.2, o.gap))

pub settle_right-requires : goal.settle_right-requires
settle_right-requires t c =
    let node = gap_node _ c.args.low c.args.high c.requires.0 c.args.at c.args.place c.requires.1 c.if-at-eq0.false in (
      c.args.low,
      node.0,
      node.1,
      (grown_shape (c.args.place - c.args.at) node.2),
      right_joined _ (slice_get c.grow-right.new.links) _ c.args.low c.args.high node.0 node.1 node.2 c.args.at
          c.args.place c.grow-right.result c.link_at-node.result node.3 c.link_at-node.ensures c.if-place-at.false
          c.grow-right.ensures c.put-else-place-at.ensures.there c.put-else-place-at.ensures.others,
    )

pub returns-else-place-at : goal.returns-else-place-at
returns-else-place-at t c = λ tree gap.
    grows_right _ (slice_get c.grow-right.new.links) (slice_get c.put-else-place-at.new.links) _ c.args.low c.args.high
    tree c.args.at c.args.place c.grow-right.result c.settle_right.result c.link_at-node.result gap c.if-at-eq0.false
    c.link_at-node.ensures c.if-place-at.false c.grow-right.ensures c.put-else-place-at.ensures.there
    c.put-else-place-at.ensures.others c.settle_right.ensures
