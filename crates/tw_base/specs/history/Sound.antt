-- Which histories are sound.
use Rattle.std.specs.Prelude.{◌≡◌, ℕ, suc, ◌≤◌, length, Some}
use Rattle.tw_base.specs.declared.kinds.limits.TheConstants.{LAST_STEP}
use Rattle.tw_base.specs.kinds.Names.{IsName}
use Rattle.tw_base.specs.history.History.{History, Step, step_at}
use Rattle.tw_base.specs.history.Limits.{IsTimeWithinLimits, IsWithinLimits}
use Rattle.tw_base.specs.history.Rules.{KeepsRule, Rule}

-- step i + 1, which is s, keeps each of the rules, and the limits
pub record IsSoundStep (h : History) (i : ℕ) (s : Step) : Type 0 where
  pub rules : (rule : Rule) → KeepsRule h i s rule
  pub limits : IsWithinLimits s.content
  pub time : IsTimeWithinLimits s.time

pub record IsSound (h : History) : Type 0 where
  pub name : IsName h.name
  pub length : length h.steps ≤ LAST_STEP
  pub steps : (i : ℕ) (s : Step) → step_at h (suc i) ≡ Some s → IsSoundStep h i s
