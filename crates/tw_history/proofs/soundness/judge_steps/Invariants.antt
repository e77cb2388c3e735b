use Rattle.std.proofs.Common.{◌≡◌, ℕ, suc, ◌<◌, Some, drop, length, sum_by}
use Rattle.tw_base.specs.history.History.{Step, step_at}
use Rattle.tw_base.specs.history.Sound.{IsSoundStep}
use Rattle.tw_history.specs.JudgingSteps.{HasJudged}
use Rattle.tw_history.specs.Tables.{steps_of_table}
use Rattle.tw_history.proofs.soundness.judge_steps.Given as goal

abbrev pub invariant-loop-earlier : goal.invariant-loop-earlier
invariant-loop-earlier l = record {
  ahead : steps_of_table (drop l.earlier l.steps) l.rest ≡ drop l.earlier l.history.steps;
  counted : sum_by (λ s. s.fresh) (drop l.earlier l.steps) ≡ length l.rest;
  judged : HasJudged l.history l.earlier l.judged;
  sound : (i : ℕ) (s : Step) → i < l.earlier → step_at l.history (suc i) ≡ Some s → IsSoundStep l.history i s;
}
