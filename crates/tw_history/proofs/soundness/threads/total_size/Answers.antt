use Rattle.std.proofs.Common.{length, ap, arith}
use Rattle.std.proofs.lemmas.List.Sums.{sum_by-drop_more}
use Rattle.tw_history.proofs.EventSizes.{sizes-bound}
use Rattle.tw_history.proofs.soundness.threads.total_size.Goals as goal

pub overflow_add-total : goal.overflow_add-total
overflow_add-total c =
    let bound = sizes-bound c.args.events.now c.requires.sizes in
    let here = sum_by-drop_more (λ event. length event) c.args.events.now c.loop-event.event-index c.event-item.result
    c.loop-event-test.true in
    let same = ap length c.event-item.is in
    let few = c.requires.count in
    let so_far = c.loop-event.invariant in
    let size = c.len-total.ensures in
    omega (arith, bound, here, same, few, so_far, size)
