use Rattle.std.proofs.Common.{◌≡◌, length, take}
use Rattle.tw_base.specs.events.EventTree.{event_leaf_texts}
use Rattle.tw_events.specs.EventLeaves.{leaf_labels}
use Rattle.tw_base.specs.kinds.Handing.{Hands}
use Rattle.tw_events.proofs.told_root.leaves_of.Given as goal

abbrev pub invariant-loop-event : goal.invariant-loop-event
invariant-loop-event g l = record {
  count : length l.leaves.items ≡ l.event-index;
  labels : l.leaves.items ≡ leaf_labels g.T.Transcript.dig (take l.event-index l.events);
  took : Hands g.T.Transcript.took l.initial.texts l.texts (event_leaf_texts (take l.event-index l.events));
}
