use Rattle.tw_base.specs.history.HistoryCodec.{event_codec}
use Rattle.tw_base.proofs.lemmas.format.PutLaws.{ManyPut}
use Rattle.tw_history.proofs.writing.put_events.Given as goal

abbrev pub invariant-loop-event : goal.invariant-loop-event
invariant-loop-event l = ManyPut event_codec.write event_codec.Fits l.initial.into l.into l.events l.event-index
