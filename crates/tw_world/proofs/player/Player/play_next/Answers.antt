use Rattle.std.proofs.Common.{◌≡◌, List, [], ◌∷◌, ◌++◌, ap, rules, subst, ◌∙◌}
use Rattle.tw_world.specs.PlayedLines.{TellsNext}
use Rattle.tw_world.specs.declared.told.Answer.TheVariants.{Refused}
use Rattle.tw_world.specs.declared.told.Told.{Told}
use Rattle.tw_world.specs.declared.told.Told.TheVariants.{Plain}
use Rattle.tw_world.proofs.AnsweredCalls.{on-ok}
use Rattle.tw_world.proofs.player.Player.play_next.Goals as goal

pub returns-in-Plain-Refused : goal.returns-in-Plain-Refused
returns-in-Plain-Refused c =
    let before : List Told = c.args.told.now in
    let after : List Told = c.push.new.self in
    let one : Told = c.in_ok-one.one in
    let told : Told = Plain (Refused c.in-Plain-Refused.refusal) in
    on-ok c.push.result (after ≡ before ++ told ∷ [])
    (TellsNext c.args.self.now c.play.new.self c.args.line.now before after)
    (λ is w f may.
    let next = c.in_ok-one.ensures w f may in
    let plain = c.in-Plain-Refused.is in
    let refused = c.in-Plain-Refused.field-0-is in
    let same : told ≡ one = cc in
    (one, next.0, next.1, subst (λ t. after ≡ before ++ t ∷ []) same is, next.2, next.3))
    c.push.ensures.ok

pub returns-in_default : goal.returns-in_default
returns-in_default c =
    let before : List Told = c.args.told.now in
    let after : List Told = c.push-in_default.new.self in
    on-ok c.push-in_default.result _
    (TellsNext c.args.self.now c.play.new.self c.args.line.now before after)
    (λ is w f may.
    let next = c.in_ok-one.ensures w f may in
    (c.in_ok-one.one, next.0, next.1, is ∙ ap (λ t. before ++ t ∷ []) (search rules), next.2, next.3))
    c.push-in_default.ensures.ok
