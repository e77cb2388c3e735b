use Rattle.std.specs.Prelude.{Some}
use Rattle.tw_base.specs.declared.history.thread.Thread.{Thread}
use Rattle.tw_service.specs.Machine.Call.{Append}
use Rattle.tw_service.specs.Machine.Reply.{OfThread}
use Rattle.tw_laws.proofs.AnsweredCalls.{adds, append_reopens, first_two}
use Rattle.tw_laws.proofs.calls.append_at.Goals as goal

pub returns : goal.returns
returns g c =
    let a = c.append_at.ensures in
    adds g.H.Hasher.dig g.D.Disk.view (Append c.args.events.now (Some c.args.time)) (λ (t : Thread). OfThread t) _ _
    (λ t. tt) _ a.steps (append_reopens _ _ _ _ _ _ _ a.table) a.broken
    (first_two _ _ _ _ a.kept) a.unwritten
