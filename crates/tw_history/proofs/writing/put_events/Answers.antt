use Rattle.std.proofs.Common.{refl}
use Rattle.tw_base.specs.format.Codecs.{many}
use Rattle.tw_base.specs.history.HistoryCodec.{event_codec}
use Rattle.tw_base.proofs.lemmas.format.PutLaws.{put-all, put-more, put-none}
use Rattle.tw_history.proofs.writing.put_events.Goals as goal

pub loop-event-init : goal.loop-event-init
loop-event-init c = put-none event_codec.write event_codec.Fits c.args.into.now c.args.events.now

pub loop-event-preserved : goal.loop-event-preserved
loop-event-preserved c =
    put-more event_codec.write event_codec.Fits c.args.into.now c.loop-event.into _ c.args.events.now
    c.loop-event.event-index c.event-item.result c.loop-event-test.true c.event-item.is
    c.loop-event.invariant c.in_ok-put_event.ensures.0 c.in_ok-put_event.ensures.1

pub returns : goal.returns
unfolding many
returns c =
    let all = put-all event_codec.write event_codec.Fits c.args.into.now c.loop-event.into c.args.events.now
    c.loop-event.event-index c.loop-event-test.false c.loop-event.invariant in
    (all.0, (refl, all.1))
