use Rattle.std.proofs.Common.{ℕ, List, refl, sym, subst}
use Rattle.tw_script.specs.declared.line.Line.{Line}
use Rattle.tw_script.specs.declared.line.Line.TheVariants.{Inject}
use Rattle.tw_world.specs.Players.{PlaysLine}
use Rattle.tw_world.specs.Worlds.{after_line, with_hostile}
use Rattle.tw_world.specs.declared.told.Answer.TheVariants.{Done}
use Rattle.tw_world.specs.declared.told.Told.{Told}
use Rattle.tw_world.specs.declared.told.Told.TheVariants.{Plain}
use Rattle.tw_world.proofs.AnsweredCalls.{if-ok}
use Rattle.tw_world.proofs.player.Player.play.Goals as goal

pub returns-in-Hostile : goal.returns-in-Hostile
returns-in-Hostile c =
    let old = c.args.self.now in
    subst (λ (l : Line). PlaysLine old old l (Plain Done)) (sym c.in-Hostile.is)
    (λ w f new. (
      after_line (with_hostile w c.in-Hostile.name),
      (new, refl, refl),
      record {
        hosts = f.hosts;
        messages = f.messages;
        files = f.files;
        proofs = f.proofs;
        anchors = f.anchors;
      },
      refl,
    ))

pub returns-in-Crash : goal.returns-in-Crash
returns-in-Crash c =
    subst (λ (l : Line). PlaysLine c.args.self.now c.plan.new.self l c.plan.result) (sym c.in-Crash.is) c.plan.ensures

pub returns-in-Inject : goal.returns-in-Inject
returns-in-Inject c =
    let old = c.args.self.now in
    let new = c.inject.new.self in
    let name : List ℕ = c.in-Inject.name in
    if-ok c.inject.result (λ (told : Told). (n : List ℕ) → PlaysLine old new (Inject n c.as_slice.result.now) told)
    (PlaysLine old new c.args.line.now)
    (λ told plays. subst (λ (l : Line). PlaysLine old new l told) (sym c.in-Inject.is)
    (subst (λ b. PlaysLine old new (Inject name b) told) c.as_slice.ensures (plays name)))
    c.inject.ensures
