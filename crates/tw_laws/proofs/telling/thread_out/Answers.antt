use Rattle.std.proofs.Common.{refl}
use Rattle.tw_msg.specs.declared.message.Message.{Message}
use Rattle.tw_msg.specs.Messages.{message_bytes}
use Rattle.tw_base.specs.declared.history.question.Question.TheVariants.{ThreadOut}
use Rattle.tw_service.specs.Machine.Call.{Ask}
use Rattle.tw_service.specs.Machine.Reply.{OfBytes}
use Rattle.tw_laws.proofs.AnsweredCalls.{reads, thread_reopens}
use Rattle.tw_laws.proofs.telling.thread_out.Goals as goal

pub returns : goal.returns
returns g c =
    let a = c.thread_out.ensures.asks in
    reads g.H.Hasher.dig g.D.Disk.view (Ask (ThreadOut c.args.since)) (λ (m : Message). OfBytes (message_bytes m)) _ _
    g.met.D.Disk.only_now (λ h. refl) (λ h next r is. is.0) (λ x. tt) _
    (thread_reopens _ _ _ _ _ a.table) a.machine a.same a.kept a.unwritten a.broken
