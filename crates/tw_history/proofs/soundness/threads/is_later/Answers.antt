use Rattle.std.proofs.Common.{◌↔◌, sym, subst, IsTrue, true, ltb}
use Rattle.std.specs.Prelude.{IfSome}
use Rattle.tw_history.specs.JudgingSteps.{IsLater}
use Rattle.tw_history.proofs.Greatest.{later-none, later-some}
use Rattle.tw_history.proofs.soundness.threads.is_later.Goals as goal

pub returns-in-Some-of : goal.returns-in-Some-of
returns-in-Some-of c es greatest =
    subst (λ o. IsTrue (ltb c.in-Some-of.step c.in-Some.thread.step) ↔ IfSome o (λ t. IsLater t es)) (sym c.in-Some.is)
    (later-some es _ c.in-Some.thread c.in-Some-of.step greatest (sym c.in-Some-of.ensures))

pub returns-in-None-of : goal.returns-in-None-of
returns-in-None-of c es greatest =
    subst (λ o. IsTrue true ↔ IfSome o (λ t. IsLater t es)) (sym c.in-Some.is)
    (later-none es _ c.in-Some.thread greatest (sym c.in-None-of.ensures))
