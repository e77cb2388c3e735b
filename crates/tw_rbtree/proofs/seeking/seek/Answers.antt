use Rattle.std.proofs.Common.{◌≡◌, false, true, sym, ◌∙◌, arith, refl}
use Rattle.std.specs.Prelude.{Some, None, Option}
use Rattle.tw_base.specs.declared.history.thread.Entry.{Entry}
use Rattle.tw_base.specs.history.Ways.{has_asked_key, is_left}
use Rattle.tw_rbnode.specs.declared.node.Found.{Found as Spot}
use Rattle.tw_rbnode.specs.declared.node.Found.TheVariants.{Between}
use Rattle.tw_rbtree.specs.declared.seeking.Sought.{Sought}
use Rattle.tw_rbtree.proofs.PageLaws.{seek-ends, seek-meets, seek-passes, seek-stops}
use Rattle.tw_rbtree.proofs.seeking.seek.Goals as goal

-- what the loop has, made of its parts
made : (s : Sought) (at : Spot) (met : Option Entry) → s.at ≡ at → s.met ≡ met
    → ◌≡◌ {A = Sought} (record { at = at; low = s.low; met = met; high = s.high }) s
made s at met ea em = λ i. record { at = sym ea i; low = s.low; met = sym em i; high = s.high }

pub returns-then-meets : goal.returns-then-meets
returns-then-meets c =
    let e = c.entry_at-entry.result in
    let meets : has_asked_key c.args.ask.now e ≡ true = grind (arith, c.meets.ensures, c.if-meets.true) in
    sym (c.loop-place.invariant.on ∙ seek-meets _ _ _ _ _ e c.entry_at-entry.ensures meets)

pub returns-then-goes_left : goal.returns-then-goes_left
returns-then-goes_left c =
    let e = c.entry_at-entry.result in
    let s = c.loop-place.sought in
    let meets : has_asked_key c.args.ask.now e ≡ false = grind (arith, c.meets.ensures, c.if-meets.false) in
    let left : is_left c.args.ask.now e ≡ true = grind (arith, c.goes_left.ensures, c.if-goes_left.true) in
    let inv = c.loop-place.invariant in
    sym (inv.on ∙ seek-stops _ _ _ _ _ e c.entry_at-entry.ensures meets left
    ∙ made (record s { high = Some e }) (Between c.loop-place.place) None inv.place inv.met)

pub loop-place-preserved : goal.loop-place-preserved
loop-place-preserved c =
    let e = c.entry_at-entry.result in
    let meets : has_asked_key c.args.ask.now e ≡ false = grind (arith, c.meets.ensures, c.if-meets.false) in
    let left : is_left c.args.ask.now e ≡ false = grind (arith, c.goes_left.ensures, c.if-goes_left.false) in
    let inv = c.loop-place.invariant in
    record {
      on = inv.on ∙ seek-passes _ _ _ _ _ e c.entry_at-entry.ensures meets left;
      place = refl;
      met = inv.met;
    }

pub returns : goal.returns
returns c =
    let inv = c.loop-place.invariant in
    let s = c.loop-place.sought in
    sym (inv.on ∙ seek-ends c.args.ask.now s.low s.high c.args.node.now.entries c.loop-place.place
    (omega (arith, c.loop-place-test.false, c.keys-place-end.ensures.count))
    ∙ made s (Between c.loop-place.place) None inv.place inv.met)
