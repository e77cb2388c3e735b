use Rattle.std.proofs.Common.{◌++◌, length, ap, subst, sym, ◌∙◌}
use Rattle.tw_base.specs.events.AuditPath.{ChecksEvent}
use Rattle.tw_base.specs.events.EventTree.{audit_path, event_root}
use Rattle.tw_base.proofs.lemmas.events.AuditShown.{ChecksEvent-audit_path}
use Rattle.tw_events.proofs.path.event_path.Goals as goal

pub returns-clause-checks : goal.returns-clause-checks
returns-clause-checks g c = λ event there.
    subst (ChecksEvent g.H.Hasher.dig (event_root g.H.Hasher.dig c.args.events.now) (length c.args.events.now)
    c.args.index event)
    (ap (λ x. x ++ audit_path g.H.Hasher.dig c.args.events.now c.args.index) (sym c.new-path.ensures)
    ∙ sym c.in_ok-add_path.ensures)
    (ChecksEvent-audit_path g.H.Hasher.dig c.args.events.now c.args.index event there)
