use Rattle.std.proofs.Common.{◌∙◌, subst}
use Rattle.tw_outside.specs.Asked.{asked}
use Rattle.tw_outside.specs.Files.{IsReadTo, IsThere}
use Rattle.tw_filecmd.proofs.AnchorFronts.{file_limit}
use Rattle.tw_reachcmd.proofs.MapFiles.{maps_judged, maps_refused}
use Rattle.tw_reachcmd.proofs.check_map.check_map_files.Goals as goal

pub returns : goal.returns
returns g c =
    let told = g.I.Inputs.told c.args.inputs.now in
    let read = c.in_ok-one.ensures in
    maps_refused (asked told (g.I.Inputs.faults c.args.inputs.now) (g.I.Inputs.faults c.read_all.new.inputs))
    c.args.low.now c.as_slice.result.now read.first_there (λ bytes tells. c.as_slice.ensures.value ∙ read.first_read
    bytes tells)
    c.args.high.now c.as_slice-2.result.now read.second_there (λ bytes tells. c.as_slice-2.ensures.value
    ∙ read.second_read bytes tells)
    c.args.anchors.now (subst (λ t. IsThere t c.args.anchors.now) read.kept c.in_ok-lines.ensures.there) c.in-Err.fault
    c.in-Err.ensures.maps

pub returns-in-Ok : goal.returns-in-Ok
returns-in-Ok g c =
    let told = g.I.Inputs.told c.args.inputs.now in
    let read = c.in_ok-one.ensures in
    let lines = c.in_ok-lines in
    let lines_read : IsReadTo told c.args.anchors.now file_limit lines.lines.items =
    subst (λ t. IsReadTo t c.args.anchors.now file_limit lines.lines.items) read.kept lines.ensures.read in
    maps_judged (asked told (g.I.Inputs.faults c.args.inputs.now) (g.I.Inputs.faults c.read_all.new.inputs))
    c.args.low.now c.as_slice.result.now read.first_there (λ bytes tells. c.as_slice.ensures.value ∙ read.first_read
    bytes tells)
    c.args.high.now c.as_slice-2.result.now read.second_there (λ bytes tells. c.as_slice-2.ensures.value
    ∙ read.second_read bytes tells)
    c.args.anchors.now (subst (λ t. IsThere t c.args.anchors.now) read.kept lines.ensures.there)
    c.as_slice-in-Ok.result.now (λ bytes tells. c.as_slice-in-Ok.ensures.value ∙ lines_read bytes tells)
    c.in-Ok.maps c.judged.result c.in-Ok.ensures.maps.0 c.in-Ok.ensures.maps.1 c.judged.ensures
