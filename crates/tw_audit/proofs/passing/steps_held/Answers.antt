use Rattle.std.proofs.Common.{sym, ◌∙◌}
use Rattle.tw_audit.proofs.StopLaws.{steps-more, steps-same}
use Rattle.tw_audit.proofs.passing.steps_held.Goals as goal
use Rattle.tw_audit.proofs.passing.steps_held.Goals.{then-eq+in_ok-push, else-eq}

pub loop-thread-preserved : goal.loop-thread-preserved
loop-thread-preserved c =
    elim c.if-eq.branch [
      | then-eq+in_ok-push w ↦ steps-more c.args.service.now c.args.held.now c.loop-thread.thread-index
          c.thread-item.result c.loop-thread-test.true c.thread-item.is c.loop-thread.steps.items c.if-eq.steps.items
          c.loop-thread.invariant ((λ k. (w.steps-is k).items) ∙ w.in_ok-push.ensures.items)
      | else-eq w ↦ steps-same c.args.service.now c.args.held.now c.loop-thread.thread-index c.thread-item.result
          c.loop-thread-test.true c.thread-item.is c.loop-thread.steps.items c.if-eq.steps.items
          c.loop-thread.invariant (λ k. (w.steps-is k).items) (sym c.eq.ensures ∙ w.if-eq.false)
    ]
