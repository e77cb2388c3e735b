use Rattle.tw_base.proofs.lemmas.history.SoundEvents.{sound-time}
use Rattle.tw_base.proofs.lemmas.history.Times.{times-order}
use Rattle.tw_base.proofs.history.history_laws.time_laws.Goals as goal

pub returns-clause-limit : goal.returns-clause-limit
returns-clause-limit c = λ h sound i. sound-time h i sound

pub returns-clause-order : goal.returns-clause-order
returns-clause-order c = λ h sound i j earlier later before at at'. times-order h sound i j earlier later before at at'
