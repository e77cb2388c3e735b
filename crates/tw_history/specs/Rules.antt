-- The first rule that a history breaks.
use Rattle.std.specs.Prelude.{◌≡◌, ℕ, suc, ◌<◌, Some}
use Rattle.tw_base.specs.history.History.{History, Step, step_at}
use Rattle.tw_base.specs.history.Rules.{KeepsRule, Rule, rule_number}

-- the step breaks the rule of this number and keeps each lower one, and each earlier step keeps them all
pub record IsFirstBroken (h : History) (step rule : ℕ) : Type 0 where
  pub i : ℕ
  pub s : Step
  pub there : (step ≡ suc i) × (step_at h (suc i) ≡ Some s)
  pub broken_rule : Rule
  pub number : rule ≡ rule_number broken_rule
  pub broken : KeepsRule h i s broken_rule → ⊥
  pub lower : (other : Rule) → rule_number other < rule → KeepsRule h i s other
  pub earlier : (k : ℕ) (t : Step) → k < i → step_at h (suc k) ≡ Some t → (other : Rule) → KeepsRule h k t other
