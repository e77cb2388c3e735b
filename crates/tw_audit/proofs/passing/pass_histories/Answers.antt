use Rattle.std.proofs.Common.{◌+◌, ◌++◌, take, ap, sym, ◌∙◌, subst, arith}
use Rattle.std.proofs.lemmas.List.{take_all}
use Rattle.tw_base.specs.history.Family.{family_texts}
use Rattle.tw_base.specs.history.History.{History}
use Rattle.tw_base.specs.history.HistoryTexts.{history_texts}
use Rattle.tw_base.proofs.lemmas.kinds.HandedTexts.{hands-same, hands-then}
use Rattle.tw_audit.specs.Stops.{AnswerInTurn, AnswersForHeld}
use Rattle.tw_audit.proofs.LoopLaws.{family-more, turn-more}
use Rattle.tw_audit.proofs.StopLaws.{turn-answers}
use Rattle.tw_audit.proofs.passing.pass_histories.Goals as goal

pub loop-history-preserved : goal.loop-history-preserved
loop-history-preserved g c =
    let dig = g.T.Transcript.dig in
    let family = c.args.histories.now in
    let held = c.args.held.now in
    let i = c.loop-history.history-index in
    let item = c.history-item.result in
    let turned = turn-more dig held family i item c.loop-history.passed.items c.in_ok-one.one c.loop-history-test.true
    c.loop-history.invariant.turn
    (subst (λ (h : History). AnswersForHeld dig held h c.in_ok-one.one) c.history-item.is c.in_ok-one.ensures.answers)
    in
    record {
      turn = subst (AnswerInTurn dig held (take (i + 1) family)) (sym c.in_ok-push.ensures.items) turned;
      took =
          hands-same g.T.Transcript.took _ _ _ _
          (ap (λ (h : History). family_texts dig (take i family) ++ history_texts dig h) c.history-item.is ∙ family-more
          dig family i item c.loop-history-test.true)
          (hands-then g.T.Transcript.took _ _ _ _ _ c.loop-history.invariant.took c.in_ok-one.ensures.took);
    }

pub returns-clause-answers : goal.returns-clause-answers
returns-clause-answers g c =
    turn-answers g.T.Transcript.dig c.args.held.now c.args.histories.now c.loop-history.passed.items
    (subst (λ hs. AnswerInTurn g.T.Transcript.dig c.args.held.now hs c.loop-history.passed.items)
    (take_all c.loop-history.history-index c.args.histories.now (omega arith)) c.loop-history.invariant.turn)
