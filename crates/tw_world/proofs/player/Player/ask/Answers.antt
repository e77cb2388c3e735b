use Rattle.std.proofs.Common.{refl}
use Rattle.tw_world.specs.declared.host.Host.{Host}
use Rattle.tw_world.proofs.Follows.{follows-asked, held-at, served-at, with_host}
use Rattle.tw_world.proofs.player.Player.ask.Goals as goal

pub returns : goal.returns
returns c w f =
    let old = c.args.self.now in
    let name = c.args.service.now in
    let host : Host = c.index_mut.result.now in
    let one : Host = c.ask.new.self in
    let served = served-at old name c.find-at.result host one c.find-at.ensures c.index_mut.ensures.value in
    let given = follows-asked old (with_host old c.find-at.result one) name c.find-at.result host one served w f
    c.args.question.now c.in_ok-given.given c.in_ok-given.ensures.gives c.in_ok-given.ensures.asked.waits in (
      given.0,
      given.1,
      given.2,
      given.3,
      (c.find-at.result, host, one, c.find-at.ensures.1, served.there, refl, c.in_ok-given.ensures.asked),
    )

pub find-at-requires : goal.find-at-requires
find-at-requires c = c.requires.there

pub ask-requires-clause-holds : goal.ask-requires-clause-holds
ask-requires-clause-holds c =
    let can = c.requires.there in
    held-at c.args.self.now can.0 c.args.service.now c.find-at.result c.index_mut.result.now can.1 c.find-at.ensures
    c.index_mut.ensures.value
