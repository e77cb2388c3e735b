-- Histories that a whole schedule leads to.
use Rattle.std.proofs.Common.{◌≡◌, ℕ, ◌≤◌, ◌<◌, List, length, sym, subst, arith}
use Rattle.std.specs.Prelude.{None}
use Rattle.std.proofs.lemmas.List.{length_push}
use Rattle.tw_base.specs.history.History.{History, root_of, step_at}
use Rattle.tw_service.specs.EventStep.{event_step, with_events_at}
use Rattle.tw_generate.specs.Coming.{IsLedTo}
use Rattle.tw_generate.specs.Schedules.{LeadTo, Trio, Who, all_append, end_event, no_steps, rounds_of, trio_history}
use Rattle.tw_generate.specs.Schedules.Who.{Alpha, Beta, Gamma}
use Rattle.tw_generate.specs.Summing.{last}
use Rattle.tw_generate.proofs.Hearing.{HaveHeard, lead-heard, rounds-heard}
use Rattle.tw_generate.proofs.Leading.{append-ends, lead-split, with_steps}

pub has-step : (h : History) (events : List (List ℕ)) → 0 < last (with_events_at h events None)
has-step h events = omega (arith, length_push h.steps (event_step (root_of (step_at h (length h.steps))) events None))

module _ (dig : List ℕ → List ℕ) (number rounds : ℕ) (t : Trio) (led : IsLedTo dig number rounds t) where
  -- after the rounds, and then the end
  pub parts : (u : Trio) × LeadTo dig (rounds_of number rounds) no_steps u × LeadTo dig
      (all_append end_event end_event end_event) u t
  parts = lead-split dig (rounds_of number rounds) (all_append end_event end_event end_event) no_steps t led.1

  pub ended : t ≡ with_steps dig parts.0 end_event end_event end_event
  ended = append-ends dig end_event end_event end_event parts.0 t parts.2

  -- each has a step
  pub some-steps : (who : Who) → 0 < last (trio_history who t)
  some-steps who = subst (λ (u : Trio). 0 < last (trio_history who u)) (sym ended) (by who)
    where
      by : (who : Who) → 0 < last (trio_history who (with_steps dig parts.0 end_event end_event end_event))
      by Alpha = has-step parts.0.alpha end_event
      by Beta = has-step parts.0.beta end_event
      by Gamma = has-step parts.0.gamma end_event

  -- from 50 rounds on
  pub all-heard : 50 ≤ rounds → HaveHeard dig t
  all-heard enough = lead-heard dig (all_append end_event end_event end_event) parts.0 t parts.2
      (rounds-heard dig number rounds parts.0 enough parts.1)
