use Rattle.std.proofs.Common.{Some, ap, sym, subst, ◌∙◌, arith, drop, length, ◌+◌, add-one}
use Rattle.std.proofs.lemmas.Option.{slice_get_within}
use Rattle.tw_history.specs.JudgingSteps.{HasJudged}
use Rattle.tw_history.specs.Tables.{step_of, steps_of_table}
use Rattle.tw_history.specs.Refusals.{TellsRule}
use Rattle.tw_history.proofs.RulesJudged.{err-told, one_more, tells-rule}
use Rattle.tw_history.proofs.TableLaws.{length-steps_of_table}
use Rattle.tw_history.proofs.TableWalk.{step-there, steps-ahead, steps-counted}
use Rattle.tw_history.proofs.soundness.judge_steps.Goals as goal

pub judge_step-requires-clause-there : goal.judge_step-requires-clause-there
judge_step-requires-clause-there c =
    step-there c.args.history.now c.args.steps.now c.loop-earlier.rest.now c.loop-earlier.earlier
    c.index-steps-earlier.result c.loop-earlier.invariant.ahead c.loop-earlier-test.true c.index-steps-earlier.is
    ∙ ap (λ ns. Some (step_of c.index-steps-earlier.result ns)) (sym c.split_at.ensures.front)

pub returns-in_err-judge_step : goal.returns-in_err-judge_step
returns-in_err-judge_step c =
    let there = step-there c.args.history.now c.args.steps.now c.loop-earlier.rest.now c.loop-earlier.earlier
    c.index-steps-earlier.result c.loop-earlier.invariant.ahead c.loop-earlier-test.true c.index-steps-earlier.is
    ∙ ap (λ ns. Some (step_of c.index-steps-earlier.result ns)) (sym c.split_at.ensures.front) in
    err-told c.from_residual.result _ (TellsRule c.args.history.now) c.in_err-judge_step.field-0.0
    c.from_residual.ensures.1
    (tells-rule c.args.history.now c.loop-earlier.earlier _ c.in_err-judge_step.field-0.0 there
    c.in_err-judge_step.ensures c.loop-earlier.invariant.sound)

pub loop-earlier-preserved : goal.loop-earlier-preserved
loop-earlier-preserved c =
    let h = c.args.history.now in
    let k = c.loop-earlier.earlier in
    let step = c.index-steps-earlier.result in
    let rest = c.loop-earlier.rest.now in
    let there = step-there h c.args.steps.now rest k step c.loop-earlier.invariant.ahead c.loop-earlier-test.true
    c.index-steps-earlier.is
    ∙ ap (λ ns. Some (step_of step ns)) (sym c.split_at.ensures.front) in
    record {
      ahead = ap (λ ns. steps_of_table (drop (k + 1) c.args.steps.now) ns) c.split_at.ensures.back
          ∙ steps-ahead h c.args.steps.now rest k step c.loop-earlier.invariant.ahead c.loop-earlier-test.true
          c.index-steps-earlier.is;
      counted = steps-counted h c.args.steps.now rest k step c.loop-earlier.invariant.ahead c.loop-earlier-test.true
          c.index-steps-earlier.is c.loop-earlier.invariant.counted
          ∙ ap length (sym c.split_at.ensures.back);
      judged = subst (λ n. HasJudged h n c.judge_step.new.judged) (sym (add-one k)) c.in_ok-judge_step.ensures.1;
      sound = λ i s less at. one_more h k _ i s there c.in_ok-judge_step.ensures.0 c.loop-earlier.invariant.sound less
          at;
    }

pub returns : goal.returns
returns c i s at =
    let within = slice_get_within c.args.history.now.steps i s at in
    let same = ap length c.requires.table ∙ length-steps_of_table c.args.steps.now c.args.nodes.now in
    c.loop-earlier.invariant.sound i s (omega (arith, within, same, c.loop-earlier-test.false)) at
