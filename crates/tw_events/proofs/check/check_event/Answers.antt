use Rattle.std.proofs.Common.{subst}
use Rattle.tw_base.specs.events.AuditPath.{ChecksEvent}
use Rattle.tw_events.proofs.Binding.{ChecksEvent-binds}
use Rattle.tw_events.proofs.check.check_event.Goals as goal

pub returns-clause-binds : goal.returns-clause-binds
returns-clause-binds g c = λ yes.
    ChecksEvent-binds g.H.Hasher.dig g.met.H.Hasher.size g.met.H.Hasher.bytes c.args.root.now c.args.count c.args.index
    c.args.event.now c.args.path.now c.see_bytes.ensures c.as_slice.ensures.sizes
    (subst (ChecksEvent g.H.Hasher.dig c.args.root.now c.args.count c.args.index c.args.event.now)
    c.as_slice.ensures.value (c.is_shown.ensures.0 yes))
