use Rattle.std.proofs.Common.{ap, arith, length}
use Rattle.tw_base.specs.declared.kinds.limits.TheConstants.{MOST_EVENT_BYTES}
use Rattle.tw_history.proofs.writing.put_event.Goals as goal

pub returns : goal.returns
returns c = rw (← c.as_slice.ensures) (c.in_ok-put_sized.ensures 0 MOST_EVENT_BYTES (omega arith)
    (omega (arith, ap length c.as_slice.ensures, c.requires)))
