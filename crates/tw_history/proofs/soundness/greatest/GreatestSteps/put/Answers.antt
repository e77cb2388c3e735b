use Rattle.tw_history.proofs.NameOrder.{apart}
use Rattle.tw_history.proofs.soundness.greatest.GreatestSteps.put.Goals as goal

pub returns-clause-others : goal.returns-clause-others
returns-clause-others c name differs = c.in_ok-insert.ensures.updates.2 name (apart c.args.service name differs)
