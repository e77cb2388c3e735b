use Rattle.std.proofs.Common.{◌≡◌, ◌+◌, ◌*◌, ◌≤◌, drop, length, sum_by}
use Rattle.tw_base.specs.history.HistoryCodec.{event_codec}
use Rattle.tw_history.proofs.sizes.events_size.Given as goal

abbrev pub invariant-loop-event : goal.invariant-loop-event
invariant-loop-event l = record {
  size : l.size + sum_by (λ event. length (event_codec.write event)) (drop l.event-index l.events) ≡ sum_by
      (λ event. length (event_codec.write event)) l.events;
  small : l.size ≤ 1028 * l.event-index;
}
