use Rattle.std.proofs.Common.{◌∙◌}
use Rattle.std.specs.Prelude.{None}
use Rattle.tw_outside.specs.Asked.{asked}
use Rattle.tw_reachcmd.proofs.PartFiles.{accuses_pair, pair_spelled, refuses_pair}
use Rattle.tw_reachcmd.proofs.accusing.accuse_pair.Goals as goal

pub returns : goal.returns
returns g c =
    let read = c.in_ok-one.ensures in
    refuses_pair (asked (g.I.Inputs.told c.args.inputs.now) (g.I.Inputs.faults c.args.inputs.now)
    (g.I.Inputs.faults c.read_both.new.inputs))
    c.args.first.now c.as_slice.result.now read.first_there (λ bytes tells. c.as_slice.ensures.value ∙ read.first_read
    bytes tells)
    c.args.second.now c.as_slice-2.result.now read.second_there (λ bytes tells. c.as_slice-2.ensures.value
    ∙ read.second_read bytes tells)
    None c.in-Err.fault tt c.in-Err.ensures

pub returns-in-Ok : goal.returns-in-Ok
returns-in-Ok g c =
    let read = c.in_ok-one.ensures in
    accuses_pair (asked (g.I.Inputs.told c.args.inputs.now) (g.I.Inputs.faults c.args.inputs.now)
    (g.I.Inputs.faults c.read_both.new.inputs))
    c.args.first.now c.as_slice.result.now read.first_there (λ bytes tells. c.as_slice.ensures.value ∙ read.first_read
    bytes tells)
    c.args.second.now c.as_slice-2.result.now read.second_there (λ bytes tells. c.as_slice-2.ensures.value
    ∙ read.second_read bytes tells)
    c.in-Ok.pair.0 c.in-Ok.pair.1 c.in_ok-made-in-Ok.field-0 c.in-Ok.ensures.0 c.in-Ok.ensures.1
    c.in_ok-made-in-Ok.ensures

pub made-requires : goal.made-requires
made-requires g c = pair_spelled c.as_slice.result.now c.as_slice-2.result.now c.in-Ok.pair.0 c.in-Ok.pair.1
    c.in-Ok.ensures.0 c.in-Ok.ensures.1
