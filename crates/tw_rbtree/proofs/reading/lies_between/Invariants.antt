use Rattle.std.proofs.Common.{◌≡◌, drop}
use Rattle.tw_rbtree.specs.Reading.{lie_between}
use Rattle.tw_rbtree.proofs.reading.lies_between.Given as goal

abbrev pub invariant-loop-place : goal.invariant-loop-place
invariant-loop-place l = lie_between l.low l.high l.node.entries ≡ lie_between l.low l.high
    (drop l.place l.node.entries)
