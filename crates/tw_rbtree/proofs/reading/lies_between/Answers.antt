use Rattle.std.proofs.Common.{◌≡◌, false, true, ap, sym, ◌∙◌, arith}
use Rattle.std.specs.Prelude.{◌&&◌}
use Rattle.tw_rbtree.specs.Reading.{is_above, is_below, lie_between}
use Rattle.tw_rbtree.proofs.PageLaws.{between-on, drop-past}
use Rattle.tw_rbtree.proofs.reading.lies_between.Goals as goal

pub returns-then-not-is_between : goal.returns-then-not-is_between
returns-then-not-is_between c =
    let e = c.entry_at-entry.result in
    let test : (is_above c.args.low.now e && is_below c.args.high.now e) ≡ false =
    grind (arith, c.is_between.ensures, c.if-not-is_between.ensures, c.if-not-is_between.true) in
    sym (c.loop-place.invariant ∙ between-on c.args.low.now c.args.high.now c.args.node.now.entries c.loop-place.place e
    c.entry_at-entry.ensures false test)

pub loop-place-preserved : goal.loop-place-preserved
loop-place-preserved c =
    let e = c.entry_at-entry.result in
    let test : (is_above c.args.low.now e && is_below c.args.high.now e) ≡ true =
    grind (arith, c.is_between.ensures, c.if-not-is_between.ensures, c.if-not-is_between.false) in
    c.loop-place.invariant ∙ between-on c.args.low.now c.args.high.now c.args.node.now.entries c.loop-place.place e
    c.entry_at-entry.ensures true test

pub returns : goal.returns
returns c =
    sym (c.loop-place.invariant ∙ ap (lie_between c.args.low.now c.args.high.now) (drop-past c.args.node.now.entries
    c.loop-place.place (omega (arith, c.loop-place-test.false, c.keys-place-end.ensures.count))))
