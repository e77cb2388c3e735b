use Rattle.std.proofs.Common.{arith}
use Rattle.std.proofs.lemmas.List.{take_rest}
use Rattle.tw_outside.proofs.Appending.{Appends-more}
use Rattle.tw_outside.proofs.writing.write_all.Goals as goal

pub loop-written-preserved : goal.loop-written-preserved
loop-written-preserved g c =
    let rest = take_rest c.args.text.now c.loop-written.written in
    record {
      within = grind (arith, c.in_ok-written.ensures.within, c.loop-written.invariant.within);
      appends = Appends-more _ _ _ c.args.text.now c.loop-written.written c.in_ok-written.field-0
          c.loop-written.invariant.appends
          (rw rest at c.in_ok-written.ensures.appends);
      later = omega (arith, c.loop-written.invariant.later, c.in_ok-written.ensures.cause.later);
    }
