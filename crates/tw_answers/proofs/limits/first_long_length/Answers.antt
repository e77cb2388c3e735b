use Rattle.std.proofs.Common.{arith, subst, sym, ◌∙◌}
use Rattle.std.proofs.lemmas.Grind.{common_steps}
use Rattle.std.proofs.lemmas.List.{take_all, take_more}
use Rattle.tw_base.specs.kinds.Bytes.{AreBytes}
use Rattle.tw_base.specs.kinds.Lists.{Each}
use Rattle.tw_base.proofs.lemmas.kinds.ListLemmas.{Each-append}
use Rattle.tw_answers.proofs.limits.first_long_length.Goals as goal

pub loop-event-preserved : goal.loop-event-preserved
loop-event-preserved c =
    let i = c.loop-event.event-index in
    let event = c.event-item.result in
    record {
      first = grind (arith, common_steps);
      bytes = subst (Each AreBytes) (sym (take_more c.args.events.now i event c.loop-event-test.true))
          (Each-append AreBytes _ _ c.loop-event.invariant.bytes
          (subst AreBytes (c.as_slice.ensures ∙ c.event-item.is) c.event_length-size.ensures.bytes, tt));
    }

pub returns-clause-bytes : goal.returns-clause-bytes
returns-clause-bytes c = λ none. subst (Each AreBytes) (take_all c.loop-event.event-index c.args.events.now
    c.loop-event-test.false) c.loop-event.invariant.bytes
