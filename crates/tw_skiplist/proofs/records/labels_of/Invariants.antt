use Rattle.std.proofs.Common.{◌≡◌, length}
use Rattle.tw_skiplist.specs.Records.{page_labels}
use Rattle.tw_skiplist.proofs.records.labels_of.Given as goal

abbrev pub invariant-loop-level : goal.invariant-loop-level
invariant-loop-level g l = record {
  labels : l.labels.items ≡ page_labels g.H.Hasher.dig l.step l.datum l.links l.level;
  count : length l.labels.items ≡ l.level;
}
