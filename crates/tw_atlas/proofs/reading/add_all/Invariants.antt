use Rattle.std.proofs.Common.{◌-◌, length}
use Rattle.tw_atlas.proofs.ReceiptLaws.{ReadSoFar}
use Rattle.tw_atlas.proofs.reading.add_all.Given as goal

abbrev pub invariant-loop-at : goal.invariant-loop-at
invariant-loop-at l = ReadSoFar l.bytes l.fn.hops l.hops l.at

abbrev pub decreases-loop-at : goal.decreases-loop-at
decreases-loop-at l = length l.bytes - l.at
