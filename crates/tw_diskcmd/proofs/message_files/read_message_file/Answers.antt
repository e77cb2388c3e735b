use Rattle.std.proofs.Common.{ap}
use Rattle.tw_outside.specs.Asked.{asked}
use Rattle.tw_text.specs.declared.fault.CommandFault.TheVariants.{Unreadable}
use Rattle.tw_diskcmd.proofs.MessageFiles.{is_message, no_message}
use Rattle.tw_diskcmd.proofs.message_files.read_message_file.Goals as goal

pub returns-in-Ok-clause-read : goal.returns-in-Ok-clause-read
returns-in-Ok-clause-read g c =
    is_message (asked (g.I.Inputs.told c.args.inputs.now) (g.I.Inputs.faults c.args.inputs.now)
    (g.I.Inputs.faults c.read_all.new.inputs))
    c.args.file.now c.in_ok-bytes.bytes.items c.in_ok-bytes.ensures.there c.in_ok-bytes.ensures.read
    c.in-Ok.message (rw c.as_slice.ensures.value at c.in-Ok.ensures)

pub returns-in-Err-Malformed-clause-stopped : goal.returns-in-Err-Malformed-clause-stopped
returns-in-Err-Malformed-clause-stopped g c =
    no_message (asked (g.I.Inputs.told c.args.inputs.now) (g.I.Inputs.faults c.args.inputs.now)
    (g.I.Inputs.faults c.read_all.new.inputs))
    c.args.file.now c.in_ok-bytes.bytes.items c.in_ok-bytes.ensures.there c.in_ok-bytes.ensures.read
    c.in-Err-Malformed.place _
    (rw c.as_slice.ensures.value at (rw c.in-Err-Malformed.field-0-is at c.in-Err-Malformed.ensures))
    (ap Unreadable c.in_ok-bad_byte-in-Err-Malformed.ensures)
