use Rattle.std.proofs.Common.{◌≡◌, ◌∙◌, ◌+◌, List, ℕ, ap, sym, subst, arith}
use Rattle.tw_generate.specs.Draws.{after_step}
use Rattle.tw_generate.specs.Playing.{LeadsByActs}
use Rattle.tw_generate.specs.Schedules.{ScheduledAct, after_rounds, round_of_acts, rounds_of}
use Rattle.tw_generate.proofs.Leading.{after-more, after-none, leads-none, leads-on, rounds-more, rounds-none}
use Rattle.tw_generate.specs.Coming.{AllCanBeDone}
use Rattle.tw_generate.proofs.Unrefused.{can-round}
use Rattle.tw_generate.proofs.services.Services.rounds.Goals as goal

pub loop-done-init : goal.loop-done-init
loop-done-init g c = (
  subst (λ (acts : List ScheduledAct). LeadsByActs g.H.Hasher.dig g.D.Disk.view acts c.args.self.now c.args.self.now)
      (sym (rounds-none c.args.number)) (leads-none g.H.Hasher.dig g.D.Disk.view c.args.self.now),
  c.new-draws.ensures ∙ sym (after-none c.args.number),
)

pub loop-done-preserved : goal.loop-done-preserved
loop-done-preserved g c =
    let dig : List ℕ → List ℕ = g.H.Hasher.dig in
    let view = g.D.Disk.view in
    let number : ℕ = c.args.number in
    let n : ℕ = c.loop-done.done in
    let before = c.loop-done.invariant in (
      subst (λ (acts : List ScheduledAct). LeadsByActs dig view acts c.args.self.now c.round.new.self)
          (sym (rounds-more number n))
          (leads-on dig view (rounds_of number n) (round_of_acts (after_rounds number n) (n + 1)) c.args.self.now
          c.loop-done.self c.round.new.self before.0
          (subst (λ x. LeadsByActs dig view (round_of_acts x (n + 1)) c.loop-done.self c.round.new.self) before.1
          c.in_ok-round.ensures.leads)),
      c.in_ok-round.ensures.state ∙ ap (λ x. after_step (after_step (after_step x))) before.1
          ∙ sym (after-more number n),
    )

pub returns : goal.returns
returns g c =
    let all : c.loop-done.done ≡ c.args.rounds = omega arith in
    subst (λ n. LeadsByActs g.H.Hasher.dig g.D.Disk.view (rounds_of c.args.number n) c.args.self.now c.loop-done.self)
    all c.loop-done.invariant.0

pub round-requires : goal.round-requires
round-requires g c =
    let dig : List ℕ → List ℕ = g.H.Hasher.dig in
    let number : ℕ = c.args.number in
    let n : ℕ = c.loop-done.done in
    let before = c.loop-done.invariant in
    let can = c.requires in
    let led = before.0 can.0 can.1 in (
      led.0,
      led.2,
      subst (λ x. AllCanBeDone dig (round_of_acts x (n + 1)) led.0) (sym before.1)
          (can-round dig number n c.args.rounds can.0 led.0 (omega arith) can.2 led.1),
    )
