use Rattle.std.proofs.Common.{◌≡◌}
use Rattle.std.specs.Prelude.{remove}
use Rattle.tw_skiplist.specs.Records.{page_labels}
use Rattle.tw_skiplist.proofs.records.labels_without.Given as goal

abbrev pub invariant-loop-level : goal.invariant-loop-level
invariant-loop-level g l = l.labels ≡ remove (page_labels g.H.Hasher.dig l.step l.datum l.links l.level) l.without
