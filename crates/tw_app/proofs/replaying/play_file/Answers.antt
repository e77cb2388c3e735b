use Rattle.tw_outside.specs.Asked.{asked}
use Rattle.tw_app.proofs.PlayedFiles.{plays, stops}
use Rattle.tw_app.proofs.replaying.play_file.Goals as goal

pub returns-in-Ok : goal.returns-in-Ok
returns-in-Ok g c =
    plays (asked (g.I.Inputs.told c.args.inputs.now) (g.I.Inputs.faults c.args.inputs.now)
    (g.I.Inputs.faults c.read_all.new.inputs))
    c.args.file.now _ _ c.as_slice.ensures.value c.in_ok-bytes.ensures.there c.in_ok-bytes.ensures.read
    c.in-Ok.played c.text_of.result c.in-Ok.ensures c.text_of.ensures

pub returns : goal.returns
returns g c =
    stops (asked (g.I.Inputs.told c.args.inputs.now) (g.I.Inputs.faults c.args.inputs.now)
    (g.I.Inputs.faults c.read_all.new.inputs))
    c.args.file.now _ _ c.as_slice.ensures.value c.in_ok-bytes.ensures.there c.in_ok-bytes.ensures.read
    c.in-Err.fault c.in_ok-bad_script-in-Err.field-0 c.in-Err.ensures c.in_ok-bad_script-in-Err.ensures
