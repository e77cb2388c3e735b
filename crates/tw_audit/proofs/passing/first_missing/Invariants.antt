use Rattle.std.proofs.Common.{◌≡◌, ℕ, List, drop}
use Rattle.std.specs.Prelude.{find, not}
use Rattle.tw_base.specs.declared.history.thread.Thread.{Thread}
use Rattle.tw_base.specs.history.History.{History}
use Rattle.tw_audit.specs.Auditing.{agrees_with}
use Rattle.tw_audit.specs.Stops.{AnswersAll}
use Rattle.tw_audit.proofs.passing.first_missing.Given as goal

abbrev pub invariant-loop-thread : goal.invariant-loop-thread
invariant-loop-thread l = (dig : List ℕ → List ℕ) (family : List History) → AnswersAll dig family l.held l.passed
    → find (λ (t : Thread). not (agrees_with dig family t)) (drop l.thread-index l.held) ≡ find
    (λ (t : Thread). not (agrees_with dig family t)) l.held
