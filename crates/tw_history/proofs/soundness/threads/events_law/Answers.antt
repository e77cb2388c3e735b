use Rattle.std.proofs.Common.{◌∷◌, ◌+◌, ap, sym, subst, ◌∙◌, drop}
use Rattle.std.proofs.lemmas.List.{drop_all, drop_more}
use Rattle.tw_base.specs.kinds.Bytes.{AreBytes}
use Rattle.tw_base.specs.kinds.Lists.{Each}
use Rattle.tw_history.proofs.soundness.threads.events_law.Goals as goal

pub loop-event-init : goal.loop-event-init
loop-event-init c all = all

pub loop-event-preserved : goal.loop-event-preserved
loop-event-preserved c rest =
    let event = c.event-item.result in
    let cut = drop_more c.args.events.now c.loop-event.event-index event c.loop-event-test.true
    ∙ ap (λ e. e ∷ drop (c.loop-event.event-index + 1) c.args.events.now) (sym c.event-item.is) in
    c.loop-event.invariant
    (subst (Each AreBytes) (sym cut) (subst AreBytes c.as_slice.ensures c.see_bytes.ensures, rest))

pub returns : goal.returns
returns c = c.loop-event.invariant
    (subst (Each AreBytes) (sym (drop_all c.loop-event.event-index c.args.events.now c.loop-event-test.false)) tt)
