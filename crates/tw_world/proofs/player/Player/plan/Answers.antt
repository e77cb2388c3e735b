use Rattle.std.proofs.Common.{refl, true}
use Rattle.std.specs.Prelude.{Some}
use Rattle.tw_world.specs.Worlds.{Member, after_line, with_member}
use Rattle.tw_world.specs.declared.host.Host.{Host}
use Rattle.tw_world.proofs.Following.{find-member}
use Rattle.tw_world.proofs.Follows.{follows-put, served-at, with_host}
use Rattle.tw_world.proofs.Members.{named}
use Rattle.tw_world.proofs.player.Player.plan.Goals as goal

pub returns : goal.returns
returns c w f may =
    let old = c.args.self.now in
    let name = c.args.service.now in
    let host : Host = c.index_mut.result.now in
    let one : Host = record host { crash = Some c.args.planned } in
    let served = served-at old name c.find-at.result host one c.find-at.ensures c.index_mut.ensures.value in
    let found = find-member old.hosts.items w.members name c.find-at.result host f.hosts served.first served.there in
    let m : Member = record found.member { waits = true } in
    let holds = found.is.holds in (
      after_line (with_member w m),
      (found.member, found.there, refl, refl),
      follows-put old (with_host old c.find-at.result one) name c.find-at.result host one served w f m
          (record {
            holds = record { named = holds.named; counted = holds.counted; stands = holds.stands };
            waits = refl;
          })
          (named w.members name found.member found.there),
      (c.find-at.result, host, one, c.find-at.ensures.1, served.there, refl, refl),
    )

pub find-at-requires : goal.find-at-requires
find-at-requires c = c.requires
