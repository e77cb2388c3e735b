use Rattle.std.proofs.Common.{ℕ, List, ap, refl, subst}
use Rattle.std.specs.Prelude.{Result}
use Rattle.tw_base.specs.declared.history.question.Question.TheVariants.{ThreadOut}
use Rattle.tw_base.specs.declared.history.refusal.Refusal.{Refusal}
use Rattle.tw_service.specs.Machine.Reply.{OfBytes, Refused}
use Rattle.tw_world.specs.Hosts.{GivesReply}
use Rattle.tw_world.specs.Worlds.{after_line, with_message}
use Rattle.tw_world.specs.Worlds.Mail.{Made, Unmade}
use Rattle.tw_world.specs.declared.told.Answer.TheVariants as answer
use Rattle.tw_world.specs.declared.told.Told.TheVariants.{Plain}
use Rattle.tw_world.proofs.GivenOn.{asked-still}
use Rattle.tw_world.proofs.player.Player.send.Goals as goal

pub returns-in_ok-number-in-Ok : goal.returns-in_ok-number-in-Ok
returns-in_ok-number-in-Ok c w f may =
    let bytes : List ℕ = c.in-Ok.bytes in
    let given = c.in_ok-bytes.ensures w f in
    let gives = subst (λ (r : Result (List ℕ) Refusal). GivesReply given.0.history (ThreadOut c.args.since) r) c.in-Ok.is
    given.2 in
    let added = c.in_ok-number-in-Ok.ensures w given.3 in (
      after_line (with_message w (Made bytes)),
      (
        given.0,
        given.1,
        (OfBytes bytes, gives, ap (λ (n : ℕ). Plain (answer.Sent n)) added.0, refl),
      ),
      added.1,
      asked-still c.args.service.now c.args.self.now.hosts.items _ _ given.4 added.2,
    )

pub returns-in_ok-add_message-in-Err : goal.returns-in_ok-add_message-in-Err
returns-in_ok-add_message-in-Err c w f may =
    let refusal : Refusal = c.in-Err.refusal in
    let given = c.in_ok-bytes.ensures w f in
    let gives = subst (λ (r : Result (List ℕ) Refusal). GivesReply given.0.history (ThreadOut c.args.since) r) c.in-Err.is
    given.2 in
    let added = c.in_ok-add_message-in-Err.ensures w given.3 in (
      after_line (with_message w Unmade),
      (given.0, given.1, (Refused refusal, gives, refl, refl)),
      added.1,
      asked-still c.args.service.now c.args.self.now.hosts.items _ _ given.4 added.2,
    )
