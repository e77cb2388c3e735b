use Rattle.std.proofs.Common.{take}
use Rattle.tw_base.specs.history.Family.{family_texts}
use Rattle.tw_base.specs.kinds.Handing.{Hands}
use Rattle.tw_audit.specs.Stops.{AnswerInTurn}
use Rattle.tw_audit.proofs.passing.pass_histories.Given as goal

abbrev pub invariant-loop-history : goal.invariant-loop-history
invariant-loop-history g l = record {
  turn : AnswerInTurn g.T.Transcript.dig l.held (take l.history-index l.histories) l.passed.items;
  took : Hands g.T.Transcript.took l.initial.texts l.texts
      (family_texts g.T.Transcript.dig (take l.history-index l.histories));
}
