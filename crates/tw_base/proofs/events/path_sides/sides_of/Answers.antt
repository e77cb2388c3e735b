use Rattle.std.proofs.Common.{◌≡◌, ◌≤◌, ◌++◌, arith, ap, sym, ◌∙◌, length, reverse, lit<}
use Rattle.std.proofs.lemmas.List.{append-nil}
use Rattle.tw_base.specs.events.AuditPath.{path_length, path_sides}
use Rattle.tw_base.specs.declared.events.side.Side.TheVariants.{Left, Right}
use Rattle.tw_base.proofs.lemmas.events.AuditPaths.{path_length-le, path_sides-few}
use Rattle.tw_base.proofs.lemmas.events.SideSteps.{length-reversed, room-left, room-right, sides-left, sides-right}
use Rattle.tw_base.proofs.lemmas.events.SideSteps.{sides-step}
use Rattle.tw_base.proofs.events.path_sides.sides_of.Goals as goal

pub loop-count-init : goal.loop-count-init
loop-count-init c =
    let short : path_length c.args.count c.args.index ≤ 10 = path_length-le 10 c.args.count c.args.index
    c.requires.few in
    let none : length c.new-sides.result.items ≡ 0 = ap length c.new-sides.ensures in
    record {
      inside = c.requires.inside;
      few = c.requires.few;
      room = omega (arith, short, none);
      same = ap (λ x. path_sides c.args.count c.args.index ++ reverse x) c.new-sides.ensures ∙ append-nil
          (path_sides c.args.count c.args.index);
    }

pub push-requires : goal.push-requires
push-requires c =
    let room = room-left c.loop-count.count c.loop-count.index c.left_count-half.result
    (length c.loop-count.sides.items) c.loop-count-test.true
    c.left_count-half.ensures.value c.if-index-half.true c.loop-count.invariant.room in
    (lit< tt, omega (arith, room))

pub loop-count-preserved-then-index-half : goal.loop-count-preserved-then-index-half
loop-count-preserved-then-index-half c =
    let room = room-left c.loop-count.count c.loop-count.index c.left_count-half.result
    (length c.loop-count.sides.items) c.loop-count-test.true
    c.left_count-half.ensures.value c.if-index-half.true c.loop-count.invariant.room in
    record {
      inside = c.if-index-half.true;
      few = omega arith;
      room = omega (arith, room, c.push.ensures.len);
      same = sides-step (path_sides c.loop-count.count c.loop-count.index)
          (path_sides c.left_count-half.result c.loop-count.index) c.push.new.self.items Right
          c.loop-count.sides.items (path_sides c.args.count c.args.index)
          (sides-left c.loop-count.count c.loop-count.index c.left_count-half.result c.loop-count-test.true
          c.left_count-half.ensures.value c.if-index-half.true)
          c.push.ensures.items c.loop-count.invariant.same;
    }

pub push-requires-else-index-half : goal.push-requires-else-index-half
push-requires-else-index-half c =
    let room = room-right c.loop-count.count c.loop-count.index c.left_count-half.result
    (length c.loop-count.sides.items) c.loop-count-test.true
    c.left_count-half.ensures.value c.if-index-half.false c.loop-count.invariant.room in
    (lit< tt, omega (arith, room))

pub loop-count-preserved : goal.loop-count-preserved
loop-count-preserved c =
    let room = room-right c.loop-count.count c.loop-count.index c.left_count-half.result
    (length c.loop-count.sides.items) c.loop-count-test.true
    c.left_count-half.ensures.value c.if-index-half.false c.loop-count.invariant.room in
    record {
      inside = omega arith;
      few = omega arith;
      room = omega (arith, room, c.push-else-index-half.ensures.len);
      same = sides-step (path_sides c.loop-count.count c.loop-count.index) (path_sides _ _)
          c.push-else-index-half.new.self.items Left
          c.loop-count.sides.items (path_sides c.args.count c.args.index)
          (sides-right c.loop-count.count c.loop-count.index c.left_count-half.result c.loop-count-test.true
          c.left_count-half.ensures.value c.if-index-half.false)
          c.push-else-index-half.ensures.items c.loop-count.invariant.same;
    }

pub returns-clause-sides : goal.returns-clause-sides
returns-clause-sides c =
    ap (λ x. x ++ reverse c.loop-count.sides.items)
    (sym (path_sides-few c.loop-count.count c.loop-count.index (omega arith)))
    ∙ c.loop-count.invariant.same

pub returns-clause-len : goal.returns-clause-len
returns-clause-len c = length-reversed c.loop-count.sides.items c.args.count c.args.index
    (ap (λ x. x ++ reverse c.loop-count.sides.items)
    (sym (path_sides-few c.loop-count.count c.loop-count.index (omega arith)))
    ∙ c.loop-count.invariant.same)
