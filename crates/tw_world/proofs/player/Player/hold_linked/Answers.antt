use Rattle.std.proofs.Common.{refl, subst}
use Rattle.tw_base.specs.declared.history.thread.Thread.{Thread}
use Rattle.tw_world.specs.Players.{PlayerFollows}
use Rattle.tw_world.specs.Worlds.{after_line, with_anchor}
use Rattle.tw_world.proofs.player.Player.hold_linked.Goals as goal

pub returns : goal.returns
returns c =
    let read = c.in_ok-anchor.ensures in (
      refl,
      λ w f. (
        read.0,
        read.1,
        subst (λ (t : Thread). PlayerFollows c.hold.new.self (after_line (with_anchor w t))) read.2
            (c.in_ok-hold.ensures w f).0,
        (c.in_ok-hold.ensures w f).1,
      ),
    )
