use Rattle.std.proofs.Common.{ap, sym, ◌∙◌}
use Rattle.std.specs.Option.{option_copied}
use Rattle.tw_chain.proofs.ChainShapes.{last_step-at}
use Rattle.tw_chain.proofs.chain_reading.step_behind.Goals as goal

pub returns-in-Some : goal.returns-in-Some
returns-in-Some c =
    let at = sym c.last.ensures.value ∙ ap option_copied c.in-Some.is in
    sym (last_step-at c.args.step c.args.hops.now c.in-Some.hop.now (rw (c.as_slice.ensures) at at))
