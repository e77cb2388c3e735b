use Rattle.std.proofs.Common.{refl}
use Rattle.tw_world.specs.Hosts.Given.{OfEvents}
use Rattle.tw_world.specs.declared.host.Host.{Host}
use Rattle.tw_world.proofs.Follows.{follows-moved, held-at, served-at, with_host}
use Rattle.tw_world.proofs.player.Player.append.Goals as goal

pub returns : goal.returns
returns c w f may =
    let old = c.args.self.now in
    let name = c.args.service.now in
    let host : Host = c.index_mut.result.now in
    let one : Host = c.append.new.self in
    let served = served-at old name c.find-at.result host one c.find-at.ensures c.index_mut.ensures.value in
    let moved = follows-moved old (with_host old c.find-at.result one) name c.find-at.result host one served w f
    (OfEvents c.args.events.now) c.in_ok-told.told
    c.in_ok-told.ensures.goes c.in_ok-told.ensures.given.named c.in_ok-told.ensures.given.over in (
      moved.2.0,
      (may.0, (moved.0, moved.1, moved.2.1)),
      moved.2.2,
      (c.find-at.result, host, one, c.find-at.ensures.1, served.there, refl, c.in_ok-told.ensures.given),
    )

pub find-at-requires : goal.find-at-requires
find-at-requires c = let can = c.requires in (can.0, can.1, can.2.1)

pub append-requires : goal.append-requires
append-requires c =
    let can = c.requires in
    held-at c.args.self.now can.0 c.args.service.now c.find-at.result c.index_mut.result.now can.1 c.find-at.ensures
    c.index_mut.ensures.value
