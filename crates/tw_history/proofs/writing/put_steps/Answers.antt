use Rattle.tw_base.specs.format.Codecs.{many}
use Rattle.tw_history.proofs.TableLaws.{length-steps_of_table}
use Rattle.tw_history.proofs.WritingLaws.{steps_end, steps_further, written_all}
use Rattle.tw_history.proofs.writing.put_steps.Goals as goal

pub loop-step-preserved : goal.loop-step-preserved
loop-step-preserved c =
    let further =
    steps_further c.args.steps.now c.loop-step.rest.now c.split_at.result.0.now c.split_at.result.1.now
    c.loop-step.step-index c.step-item.result
    c.loop-step-test.true c.step-item.is c.split_at.ensures.front c.split_at.ensures.back c.in_ok-put_step.ensures.1 in
    record {
      written = further.written c.loop-step.into c.put_step.new.into _ c.in_ok-put_step.ensures.0
          c.loop-step.invariant.written;
      fits = λ rest. c.loop-step.invariant.fits (further.fits rest);
      counted = further.counted c.loop-step.invariant.counted;
      entries = further.entries c.loop-step.invariant.entries;
    }

pub returns : goal.returns
unfolding many
returns c = (
  written_all c.args.steps.now c.loop-step.rest.now c.loop-step.step-index _ _ c.loop-step-test.false
      c.loop-step.invariant.written,
  (
    length-steps_of_table c.args.steps.now c.args.nodes.now,
    c.loop-step.invariant.fits (steps_end c.args.steps.now c.loop-step.rest.now c.loop-step.step-index
        c.loop-step-test.false),
  ),
)
