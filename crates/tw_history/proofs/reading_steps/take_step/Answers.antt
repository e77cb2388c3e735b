use Rattle.tw_history.proofs.FileFits.{recorded-range}
use Rattle.tw_history.proofs.reading_steps.take_step.Goals as goal

pub returns-clause-content : goal.returns-clause-content
returns-clause-content c = (recorded-range _ _ c.in_ok-time.ensures.1).0

pub returns-clause-time : goal.returns-clause-time
returns-clause-time c = (recorded-range _ _ c.in_ok-time.ensures.1).1
