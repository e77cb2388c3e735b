use Rattle.std.proofs.Common.{◌≡◌, List, ℕ, [], ◌∷◌, ◌++◌, ap, sym, ◌∙◌}
use Rattle.tw_generate.specs.Draws.{after_draws, drawn, drawn_event, drawn_events, next_state}
use Rattle.tw_generate.proofs.DrawSteps.{after-more, after-none, drawn-more, drawn-none}
use Rattle.tw_generate.proofs.draws.Draws.many.Goals as goal

pub loop-done-init : goal.loop-done-init
loop-done-init c =
    (c.new-events.ensures ∙ sym (drawn-none c.args.self.now.state), sym (after-none c.args.self.now.state))

pub loop-done-preserved : goal.loop-done-preserved
loop-done-preserved c =
    let x : ℕ = c.args.self.now.state in
    let n : ℕ = c.loop-done.done in
    let state : c.event.new.self.state ≡ next_state (after_draws x n) = c.event.ensures.state ∙ ap next_state
    c.loop-done.invariant.1 in (
      c.in_ok-push.ensures.ok
          ∙ ap (λ (es : List (List ℕ)). es ++ c.in_ok-event.field-0 ∷ []) c.loop-done.invariant.0
          ∙ ap (λ (e : List ℕ). drawn_events x n ++ e ∷ []) (c.in_ok-event.ensures.event
          ∙ ap (λ s. drawn_event (drawn s)) state)
          ∙ sym (drawn-more x n),
      state ∙ sym (after-more x n),
    )
