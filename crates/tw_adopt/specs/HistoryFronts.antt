-- The first steps of a history, the authenticator that it has at a step, and histories that are the same up to a step.
use Rattle.std.specs.Prelude.{◌≡◌, ℕ, ◌≤◌, length, take, Option}
use Rattle.std.specs.Option.{option_map}
use Rattle.tw_base.specs.declared.history.content.Content.{Content}
use Rattle.tw_base.specs.history.History.{History, Step, step_at, time_at}
use Rattle.tw_base.specs.history.Tree.{tree}

-- the history of the first so many steps, of all where it has no more
abbrev pub first_steps : History → (count : ℕ) → History
first_steps h count = record { name = h.name; steps = take count h.steps }

-- what step j records, its events or the thread that it received, where the history has it
abbrev pub content_at : History → (j : ℕ) → Option Content
content_at h j = option_map (λ (s : Step). s.content) (step_at h j)

-- two histories of one service, both with this step, have the same contents, times and trees of the archive at each step up to it
pub record Same (h other : History) (step : ℕ) : Type 0 where
  pub name : h.name ≡ other.name
  pub has : step ≤ length h.steps
  pub other_has : step ≤ length other.steps
  pub contents : (j : ℕ) → j ≤ step → content_at h j ≡ content_at other j
  pub times : (j : ℕ) → j ≤ step → time_at h j ≡ time_at other j
  pub trees : (j : ℕ) → j ≤ step → tree h j ≡ tree other j
