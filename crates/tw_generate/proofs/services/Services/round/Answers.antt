use Rattle.std.proofs.Common.{◌≡◌, ◌∙◌, List, [], ℕ, ◌%◌, ap, subst, sym}
use Rattle.std.specs.Prelude.{◌==◌, if◌then◌else◌}
use Rattle.tw_generate.specs.Draws.{after_step, step_events}
use Rattle.tw_generate.specs.Playing.{LeadsByActs}
use Rattle.tw_generate.specs.Schedules.{ScheduledAct, all_append, all_tell}
use Rattle.tw_generate.proofs.Leading.{leads-on, on-ok}
use Rattle.tw_generate.specs.Unrefused.{CanPlay}
use Rattle.tw_generate.proofs.Unrefused.{can-begin, can-on}
use Rattle.tw_generate.proofs.services.Services.round.Goals as goal

-- the events that were drawn one after another are those of the round
drawn : (x one two : ℕ) (alpha beta gamma : List (List ℕ)) → (alpha ≡ step_events x) × (one ≡ after_step x)
    → (beta ≡ step_events one) × (two ≡ after_step one) → gamma ≡ step_events two
    → all_append alpha beta gamma ≡ all_append (step_events x) (step_events (after_step x))
    (step_events (after_step (after_step x)))
drawn x one two alpha beta gamma first second third =
    let beta_is = second.0 ∙ ap step_events first.1 in
    let gamma_is = third ∙ ap step_events (second.1 ∙ ap after_step first.1) in
    λ j. all_append (first.0 j) (beta_is j) (gamma_is j)

pub returns-clause-leads : goal.returns-clause-leads
returns-clause-leads g c =
    let dig : List ℕ → List ℕ = g.H.Hasher.dig in
    let view = g.D.Disk.view in
    let x : ℕ = c.args.draws.now.state in
    on-ok c.exchange_in.result
    (λ told. leads-on dig view (all_append (step_events x) (step_events (after_step x))
    (step_events (after_step (after_step x)))) (if c.args.number % 50 == 0 then all_tell else []) c.args.self.now
    c.append_all.new.self c.exchange_in.new.self
    (subst (λ (acts : List ScheduledAct). LeadsByActs dig view acts c.args.self.now c.append_all.new.self)
    (drawn x _ _ _ _ _ c.in_ok-alpha.ensures c.in_ok-beta.ensures c.in_ok-gamma.ensures.0)
    c.in_ok-append_all.ensures) told)
    c.exchange_in.ensures

pub append_all-requires : goal.append_all-requires
append_all-requires g c =
    let x : ℕ = c.args.draws.now.state in
    subst (λ (acts : List ScheduledAct). CanPlay g.H.Hasher.dig g.D.Disk.view acts c.args.self.now)
    (sym (drawn x _ _ _ _ _ c.in_ok-alpha.ensures c.in_ok-beta.ensures c.in_ok-gamma.ensures.0))
    (can-begin g.H.Hasher.dig g.D.Disk.view (all_append (step_events x) (step_events (after_step x))
    (step_events (after_step (after_step x)))) (if c.args.number % 50 == 0 then all_tell else []) c.args.self.now
    c.requires)

pub exchange_in-requires : goal.exchange_in-requires
exchange_in-requires g c =
    let x : ℕ = c.args.draws.now.state in
    can-on g.H.Hasher.dig g.D.Disk.view (all_append (step_events x) (step_events (after_step x))
    (step_events (after_step (after_step x)))) (if c.args.number % 50 == 0 then all_tell else []) c.args.self.now
    c.append_all.new.self
    (subst (λ (acts : List ScheduledAct). LeadsByActs g.H.Hasher.dig g.D.Disk.view acts c.args.self.now
    c.append_all.new.self)
    (drawn x _ _ _ _ _ c.in_ok-alpha.ensures c.in_ok-beta.ensures c.in_ok-gamma.ensures.0) c.in_ok-append_all.ensures)
    c.requires
