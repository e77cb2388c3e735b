use Rattle.std.proofs.Common.{◌≡◌, ◌-◌, ◌<◌, ◌≤◌, get_or, ap, sym, subst, ◌∙◌, length}
use Rattle.std.specs.Option.{SomeIff}
use Rattle.std.proofs.lemmas.Bool.{ltb-true, ltb-false}
use Rattle.tw_base.specs.history.History.{History}
use Rattle.tw_history.proofs.TableWalk.{key_at-found, key_at-missing}
use Rattle.tw_history.proofs.soundness.keys.key_at.Goals as goal

pub returns-in_err-step : goal.returns-in_err-step
returns-in_err-step c =
    let past = ltb-false _ _ (sym c.in_err-step.ensures.lookup.0) in
    let at = subst (λ o. SomeIff o (1 ≤ c.args.step) (c.args.step - 1)) c.in_ok-index.was c.checked_sub.ensures in
    c.from_residual-in_err-step.ensures
    ∙ key_at-missing c.args.history.now c.history.inside.steps c.history.inside.nodes c.args.step c.in_ok-index.index
    (ap (λ (h : History). h.steps) (sym c.history.view_is)) at
    (subst (λ xs. length xs ≤ c.in_ok-index.index) c.as_slice.ensures past)

pub returns : goal.returns
returns c =
    let within = ltb-true _ _ (sym c.in_ok-step.ensures.lookup.0) in
    let at = subst (λ o. SomeIff o (1 ≤ c.args.step) (c.args.step - 1)) c.in_ok-index.was c.checked_sub.ensures in
    c.key_of_step.ensures
    ∙ key_at-found c.args.history.now c.history.inside.steps c.history.inside.nodes c.args.step c.in_ok-index.index
    c.in_ok-step.step.now (ap (λ (h : History). h.steps) (sym c.history.view_is)) at
    (subst (λ xs. c.in_ok-index.index < length xs) c.as_slice.ensures within)
    (subst (λ xs. c.in_ok-step.step.now ≡ get_or xs c.in_ok-index.index c.in_ok-step.step.now) c.as_slice.ensures
    c.in_ok-step.ensures.lookup.1)
