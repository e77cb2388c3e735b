use Rattle.std.proofs.Common.{◌-◌, ◌≤◌, sym, subst, arith}
use Rattle.tw_base.specs.declared.kinds.limits.TheConstants.{LAST_STEP}
use Rattle.tw_skipproof.proofs.Shapes.{part-shape}
use Rattle.tw_chain.proofs.ChainShapes.{last_step-all}
use Rattle.tw_chain.proofs.chain_reading.take_with_hops.Goals as goal

pub overflow_sub-start : goal.overflow_sub-start
overflow_sub-start c = (part-shape 1 c.in_ok-head.head c.in_ok-head.ensures.takes.1).0.step

pub take_optional-requires-clause-step : goal.take_optional-requires-clause-step
take_optional-requires-clause-step c =
    let step = (part-shape 1 c.in_ok-head.head c.in_ok-head.ensures.takes.1).1.step in omega (arith, step)

pub take_tail-requires-clause-upper : goal.take_tail-requires-clause-upper
take_tail-requires-clause-upper c =
    let step = (part-shape 1 c.in_ok-head.head c.in_ok-head.ensures.takes.1).1.step in
    subst (λ s. s ≤ LAST_STEP) (sym c.step_behind-upper.ensures)
    (last_step-all (c.in_ok-head.head.step - 1) c.args.count c.in_ok-hops.hops (omega (arith, step))
    c.in_ok-hops.ensures.1)
