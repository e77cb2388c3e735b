use Rattle.std.proofs.Common.{ap, arith}
use Rattle.tw_outside.specs.Asked.{asked}
use Rattle.tw_text.specs.declared.fault.CommandFault.TheVariants.{Unreadable}
use Rattle.tw_diskcmd.proofs.EventFiles.{are_events, no_events, too_long}
use Rattle.tw_diskcmd.proofs.appending.read_step.Goals as goal

pub returns-then-len-gt-EVENTS_LIMIT-clause-stopped : goal.returns-then-len-gt-EVENTS_LIMIT-clause-stopped
returns-then-len-gt-EVENTS_LIMIT-clause-stopped g c =
    too_long (asked (g.I.Inputs.told c.args.inputs.now) (g.I.Inputs.faults c.args.inputs.now)
    (g.I.Inputs.faults c.read_all.new.inputs))
    c.args.file.now c.in_ok-bytes.bytes.items c.in_ok-bytes.ensures.there c.in_ok-bytes.ensures.read _ (omega arith)
    (ap Unreadable c.in_ok-bad.ensures)

pub returns-in-Ok-clause-read : goal.returns-in-Ok-clause-read
returns-in-Ok-clause-read g c =
    are_events (asked (g.I.Inputs.told c.args.inputs.now) (g.I.Inputs.faults c.args.inputs.now)
    (g.I.Inputs.faults c.read_all.new.inputs))
    c.args.file.now c.in_ok-bytes.bytes.items c.in_ok-bytes.ensures.there c.in_ok-bytes.ensures.read
    c.in-Ok.events (omega arith) (rw c.as_slice.ensures.value at c.in-Ok.ensures)

pub returns-in-Err-Malformed-clause-stopped : goal.returns-in-Err-Malformed-clause-stopped
returns-in-Err-Malformed-clause-stopped g c =
    no_events (asked (g.I.Inputs.told c.args.inputs.now) (g.I.Inputs.faults c.args.inputs.now)
    (g.I.Inputs.faults c.read_all.new.inputs))
    c.args.file.now c.in_ok-bytes.bytes.items c.in_ok-bytes.ensures.there c.in_ok-bytes.ensures.read
    c.in-Err-Malformed.place _ (omega arith)
    (rw c.as_slice.ensures.value at (rw c.in-Err-Malformed.field-0-is at c.in-Err-Malformed.ensures))
    (ap Unreadable c.in_ok-bad_byte-in-Err-Malformed.ensures)
