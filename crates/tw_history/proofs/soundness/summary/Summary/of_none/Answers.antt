use Rattle.std.proofs.Common.{refl}
use Rattle.tw_history.specs.JudgingSteps.{summary_of}
use Rattle.tw_history.proofs.soundness.summary.Summary.of_none.Goals as goal

pub returns : goal.returns
unfolding summary_of
returns c = refl
