use Rattle.std.proofs.Common.{◌∙◌, subst}
use Rattle.std.specs.Prelude.{Some}
use Rattle.tw_outside.specs.Asked.{asked}
use Rattle.tw_outside.specs.Files.{IsReadTo, IsThere}
use Rattle.tw_filecmd.proofs.AnchorFronts.{file_limit}
use Rattle.tw_reachcmd.proofs.PartFiles.{linked_comes, pair_spelled, refuses_pair}
use Rattle.tw_reachcmd.proofs.accusing.accuse_linked.Goals as goal

pub returns : goal.returns
returns g c =
    let told = g.I.Inputs.told c.args.inputs.now in
    let read = c.in_ok-one.ensures in
    refuses_pair (asked told (g.I.Inputs.faults c.args.inputs.now) (g.I.Inputs.faults c.read_all.new.inputs))
    c.args.first.now c.as_slice.result.now read.first_there (λ bytes tells. c.as_slice.ensures.value ∙ read.first_read
    bytes tells)
    c.args.second.now c.as_slice-2.result.now read.second_there (λ bytes tells. c.as_slice-2.ensures.value
    ∙ read.second_read bytes tells)
    (Some c.args.link.now) c.in-Err.fault (subst (λ t. IsThere t c.args.link.now) read.kept
    c.in_ok-between.ensures.there) c.in-Err.ensures

pub returns-in-Ok : goal.returns-in-Ok
returns-in-Ok g c =
    let told = g.I.Inputs.told c.args.inputs.now in
    let read = c.in_ok-one.ensures in
    let link = c.in_ok-between in
    let link_read : IsReadTo told c.args.link.now file_limit link.between.items =
    subst (λ t. IsReadTo t c.args.link.now file_limit link.between.items) read.kept link.ensures.read in
    linked_comes (asked told (g.I.Inputs.faults c.args.inputs.now) (g.I.Inputs.faults c.read_all.new.inputs))
    c.args.first.now c.as_slice.result.now read.first_there (λ bytes tells. c.as_slice.ensures.value ∙ read.first_read
    bytes tells)
    c.args.second.now c.as_slice-2.result.now read.second_there (λ bytes tells. c.as_slice-2.ensures.value
    ∙ read.second_read bytes tells)
    c.args.link.now c.as_slice-in-Ok.result.now (subst (λ t. IsThere t c.args.link.now) read.kept link.ensures.there)
    (λ bytes tells. c.as_slice-in-Ok.ensures.value ∙ link_read bytes tells)
    c.in-Ok.pair.0 c.in-Ok.pair.1 c.linked.result c.in-Ok.ensures.0 c.in-Ok.ensures.1 c.linked.ensures

pub linked-requires : goal.linked-requires
linked-requires g c = pair_spelled c.as_slice.result.now c.as_slice-2.result.now c.in-Ok.pair.0 c.in-Ok.pair.1
    c.in-Ok.ensures.0 c.in-Ok.ensures.1
