use Rattle.tw_history.specs.PassSteps.{HandsOn, HasPassed}
use Rattle.tw_history.proofs.pass.pass_steps.Given as goal

abbrev pub invariant-loop-index : goal.invariant-loop-index
invariant-loop-index g l = record {
  passed : HasPassed g.T.Transcript.dig l.history l.index l.digests;
  took : HandsOn g.T.Transcript.dig l.history g.T.Transcript.took l.initial.texts l.texts l.fn.from l.index;
}
