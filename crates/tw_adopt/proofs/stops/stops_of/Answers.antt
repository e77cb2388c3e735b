use Rattle.std.proofs.Common.{◌≡◌, ◌≤◌, ◌∙◌, length, arith, subst}
use Rattle.tw_base.specs.kinds.Lists.{Each}
use Rattle.tw_history.specs.Stops.{auth_to, stopped_at}
use Rattle.tw_adopt.proofs.StopLaws.{stops-answer}
use Rattle.tw_adopt.proofs.stops.stops_of.Goals as goal

pub returns : goal.returns
returns g c =
    let dig = g.H.Hasher.dig in
    let h = c.args.history.now in
    let last = c.last_shown-last.result in
    stops-answer dig h last (omega (arith, c.last_shown-last.ensures.within, c.count_of_steps.ensures.count))
    c.in_ok-stops.stops.items c.args.shown.now
    (subst (λ steps. Each (λ step. step ≤ length h.steps → step ≤ last) steps)
    (c.as_slice.ensures.value ∙ c.in_ok-steps.ensures)
    (subst (λ n. Each (λ step. step ≤ n → step ≤ last) c.as_slice.result.now) c.count_of_steps.ensures.count
    c.last_shown-last.ensures.all))
    (subst (λ steps. Each (λ step. stopped_at c.in_ok-stops.stops.items step ≡ auth_to dig h last step) steps)
    (c.as_slice-2.ensures.value ∙ c.in_ok-steps.ensures) c.in_ok-stops.ensures.stops)
