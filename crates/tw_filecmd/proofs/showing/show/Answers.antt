use Rattle.std.proofs.Common.{◌∙◌}
use Rattle.tw_outside.specs.Asked.{asked}
use Rattle.tw_text.specs.declared.fault.CommandFault.TheVariants.{Unreadable}
use Rattle.tw_filecmd.specs.Showing.{ProvesEvent}
use Rattle.tw_filecmd.proofs.Histories.{of_history, refuses_file, refuses_show}
use Rattle.tw_filecmd.proofs.showing.show.Goals as goal

pub returns-in-Err : goal.returns-in-Err
returns-in-Err g c =
    refuses_file (asked (g.I.Inputs.told c.args.inputs.now) (g.I.Inputs.faults c.args.inputs.now)
    (g.I.Inputs.faults c.read_all.new.inputs))
    c.args.file.now c.as_slice.result.now c.in_ok-bytes.ensures.there (λ bytes tells. c.as_slice.ensures.value
    ∙ c.in_ok-bytes.ensures.read bytes tells)
    c.args.step c.args.index c.in-Err.fault (Unreadable c.in_ok-bad_history-in-Err.field-0) c.in-Err.ensures.read
    c.in_ok-bad_history-in-Err.ensures

pub returns-in-Ok-show_at : goal.returns-in-Ok-show_at
returns-in-Ok-show_at g c =
    of_history (asked (g.I.Inputs.told c.args.inputs.now) (g.I.Inputs.faults c.args.inputs.now)
    (g.I.Inputs.faults c.read_all.new.inputs))
    c.args.file.now c.as_slice.result.now c.in_ok-bytes.ensures.there (λ bytes tells. c.as_slice.ensures.value
    ∙ c.in_ok-bytes.ensures.read bytes tells)
    (ProvesEvent c.args.step c.args.index c.in-Ok-show_at.proof) c.in-Ok.history c.in-Ok.ensures.read
    c.in-Ok-show_at.ensures.shown

pub returns : goal.returns
returns g c =
    refuses_show (asked (g.I.Inputs.told c.args.inputs.now) (g.I.Inputs.faults c.args.inputs.now)
    (g.I.Inputs.faults c.read_all.new.inputs))
    c.args.file.now c.as_slice.result.now c.in_ok-bytes.ensures.there (λ bytes tells. c.as_slice.ensures.value
    ∙ c.in_ok-bytes.ensures.read bytes tells)
    c.args.step c.args.index c.in-Ok.history c.in-Err-show_at.fault c.fault_of_show.result c.in-Ok.ensures.read
    c.in-Err-show_at.ensures.refused c.fault_of_show.ensures
