use Rattle.std.proofs.Common.{List, [], ap, sym, subst, false, refl}
use Rattle.std.specs.Prelude.{is_some}
use Rattle.tw_service.specs.Stands.{no_history}
use Rattle.tw_world.specs.Players.{AreHostsOf}
use Rattle.tw_world.specs.Worlds.{Member, after_line, with_service}
use Rattle.tw_world.specs.declared.host.Host.{Host}
use Rattle.tw_world.proofs.Following.{add-host}
use Rattle.tw_world.proofs.player.Player.make.Goals as goal

pub returns : goal.returns
returns c w f new =
    let m : Member = record { history = no_history c.args.name; births = []; waits = false } in (
      after_line (with_service w c.args.name),
      (new, refl, refl),
      record {
        hosts = subst (λ (hosts : List Host). AreHostsOf hosts (with_service w c.args.name).members)
            (sym c.in_ok-push.ensures.items)
            (add-host c.args.self.now.hosts.items w.members c.in_ok-host.host m f.hosts
            (record { holds = c.in_ok-host.ensures.holds; waits = ap is_some c.in_ok-host.ensures.waits }));
        messages = f.messages;
        files = f.files;
        proofs = f.proofs;
        anchors = f.anchors;
      },
      (c.in_ok-host.host, c.in_ok-push.ensures.items, c.in_ok-host.ensures.holds.named, c.in_ok-host.ensures.waits),
    )
