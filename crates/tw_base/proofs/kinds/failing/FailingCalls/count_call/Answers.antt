use Rattle.std.proofs.Common.{◌-◌, get_or, arith}
use Rattle.std.proofs.lemmas.List.{get_or_default}
use Rattle.std.proofs.lemmas.List.Edits.{map_over_more}
use Rattle.tw_base.proofs.kinds.failing.FailingCalls.count_call.Goals as goal

pub loop-number-preserved : goal.loop-number-preserved
loop-number-preserved c =
    let written = map_over_more (λ k. k - 1) c.deref_mut-number-items.result.now c.loop-number.number-items
    c.loop-number.number-index
    (get_or c.loop-number.number-items c.loop-number.number-index 0) c.loop-number-test.true c.loop-number.invariant
    (get_or_default c.loop-number.number-items c.loop-number.number-index 0 _ (omega arith)) in
    rw c.saturating_sub.ensures written
