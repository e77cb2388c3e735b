use Rattle.std.proofs.Common.{◌<◌, length, refl, ap, sym, ◌∙◌, arith, subst}
use Rattle.std.specs.Prelude.{Some, IsSome}
use Rattle.tw_world.specs.Hosts.Given.{OfBytes}
use Rattle.tw_world.specs.Players.{mail_kept}
use Rattle.tw_world.specs.Runs.{loss_answer}
use Rattle.tw_world.specs.Worlds.{after_line}
use Rattle.tw_world.specs.Worlds.Mail.{Made, Unmade}
use Rattle.tw_world.specs.declared.host.Host.{Host}
use Rattle.tw_world.specs.declared.player.Mail.{Mail as KeptMail}
use Rattle.tw_world.specs.declared.told.Answer.TheVariants as answer
use Rattle.tw_world.specs.declared.told.Told.TheVariants.{Plain}
use Rattle.tw_world.proofs.Following.{find-member}
use Rattle.tw_world.proofs.Follows.{follows-moved, held-at, host-there, later, message-kept, message-there}
use Rattle.tw_world.proofs.Follows.{message-within, served-at, with_host}
use Rattle.tw_world.proofs.GivenOn.{delivered-on}
use Rattle.tw_world.proofs.ToldLines.{told-delivered}
use Rattle.tw_world.proofs.player.Player.deliver.Goals as goal

pub returns-in_ok-told-in-Made : goal.returns-in_ok-told-in-Made
returns-in_ok-told-in-Made c w f may =
    let old = c.args.self.now in
    let name = c.args.service.now in
    let at = c.index_of-index.ensures in
    let index = c.index_of-index.result in
    let within : index < length old.messages.items = omega (arith, at.0, c.len.ensures, old.messages.ok.0) in
    let bytes = c.as_slice.result.now in
    let there = message-there old w index c.index.result.now f within c.index.ensures
    ∙ ap (λ (k : KeptMail). Some (mail_kept k)) c.in-Made.is
    ∙ ap (λ b. Some (Made b)) (sym c.as_slice.ensures) in
    let host : Host = c.index_mut.result.now in
    let one : Host = c.deliver.new.self in
    let served = served-at old name c.find-at.result host one c.find-at.ensures c.index_mut.ensures.value in
    let moved = follows-moved old (with_host old c.find-at.result one) name c.find-at.result host one served w f
    (OfBytes bytes) c.in_ok-told-in-Made.told
    c.in_ok-told-in-Made.ensures.goes c.in_ok-told-in-Made.ensures.given.named c.in_ok-told-in-Made.ensures.given.over in (
      moved.2.0,
      told-delivered w name c.args.number index moved.0 (Made bytes) c.in_ok-told-in-Made.told moved.2.0 moved.1 at.1
          there moved.2.1,
      moved.2.2,
      delivered-on w old.hosts.items (with_host old c.find-at.result one).hosts.items c.args.number index name
          c.in_ok-told-in-Made.told (Made bytes) at.1 there
          (c.find-at.result, host, one, c.find-at.ensures.1, served.there, refl, c.in_ok-told-in-Made.ensures.given),
    )

pub returns-in-Unmade : goal.returns-in-Unmade
returns-in-Unmade c w f may =
    let old = c.args.self.now in
    let name = c.args.service.now in
    let at = c.index_of-index.ensures in
    let index = c.index_of-index.result in
    let within : index < length old.messages.items = omega (arith, at.0, c.len.ensures, old.messages.ok.0) in
    let there = message-there old w index c.index.result.now f within c.index.ensures
    ∙ ap (λ (k : KeptMail). Some (mail_kept k)) c.in-Unmade.is in
    let host = host-there old.hosts.items c.find-at.result c.find-at.ensures.0 in
    let found = find-member old.hosts.items w.members name c.find-at.result host.0 f.hosts c.find-at.ensures.1
    host.1 in (
      after_line w,
      told-delivered w name c.args.number index found.member Unmade (Plain answer.Nothing) (after_line w) found.there
          at.1 there (refl, refl),
      later old w f,
      delivered-on w old.hosts.items old.hosts.items c.args.number index name (Plain answer.Nothing) Unmade at.1 there
          refl,
    )

pub find-at-requires : goal.find-at-requires
find-at-requires c = let can = c.requires in (can.0, can.1, can.2.1)

pub index_of-index-requires : goal.index_of-index-requires
index_of-index-requires c =
    let can = c.requires in
    let old = c.args.self.now in
    let within = message-within old can.0 c.args.number can.1 can.2.0 in
    (within.0, omega (arith, within.1, c.len.ensures, old.messages.ok.0))

pub deliver-requires : goal.deliver-requires
deliver-requires c =
    let can = c.requires in
    held-at c.args.self.now can.0 c.args.service.now c.find-at.result c.index_mut.result.now can.1 c.find-at.ensures
    c.index_mut.ensures.value

pub unreachable-requires : goal.unreachable-requires
unreachable-requires c =
    let can = c.requires in
    let old = c.args.self.now in
    let at = c.index_of-index.ensures in
    let index = c.index_of-index.result in
    let within : index < length old.messages.items = omega (arith, at.0, c.len.ensures, old.messages.ok.0) in
    let kept = message-kept old can.0 index c.args.number c.index.result.now can.1 within c.index.ensures at.1
    can.2.0 in
    let lost = subst (λ (k : KeptMail). IsSome (loss_answer (mail_kept k))) c.in-Dropped.is kept in cc
