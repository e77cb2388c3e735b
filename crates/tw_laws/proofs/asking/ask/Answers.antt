use Rattle.std.proofs.Common.{ℕ, List, refl}
use Rattle.tw_service.specs.Machine.Call.{Ask}
use Rattle.tw_service.specs.Machine.Reply.{OfBytes}
use Rattle.tw_laws.proofs.AnsweredCalls.{question_reopens, reads}
use Rattle.tw_laws.proofs.asking.ask.Goals as goal

pub returns : goal.returns
returns g c =
    let a = c.ask.ensures.asks in
    reads g.H.Hasher.dig g.D.Disk.view (Ask c.args.question.now) (λ (bytes : List ℕ). OfBytes bytes) _ _
    g.met.D.Disk.only_now (λ h. refl) (λ h next r is. is.0) (λ x. tt) _
    (question_reopens _ _ _ _ c.args.question.now a.table) a.machine a.same a.kept a.unwritten a.broken
