use Rattle.std.proofs.Common.{length}
use Rattle.tw_skipproof.proofs.ExistenceOf.{accepted-made}
use Rattle.tw_history.proofs.showing.show_event.Goals as goal

pub returns-in-Ok-clause-accepted : goal.returns-in-Ok-clause-accepted
returns-in-Ok-clause-accepted g c =
    let made = c.in-Ok.ensures in (
      made.0,
      made.1,
      accepted-made g.H.Hasher.dig c.args.history.now c.args.step c.args.index (length c.args.history.now.steps) made.0
          made.2 c.in_ok-events.ensures.step.1,
    )
