use Rattle.std.proofs.Common.{◌≡◌, drop}
use Rattle.std.specs.Prelude.{None}
use Rattle.tw_rbnode.specs.declared.node.Found.TheVariants.{Between}
use Rattle.tw_rbtree.specs.Ways.{seek}
use Rattle.tw_rbtree.proofs.seeking.seek.Given as goal

abbrev pub invariant-loop-place : goal.invariant-loop-place
invariant-loop-place l = record {
  on : seek l.ask 0 l.low l.high l.node.entries ≡ seek l.ask l.place l.sought.low l.sought.high
      (drop l.place l.node.entries);
  place : l.sought.at ≡ Between l.place;
  met : l.sought.met ≡ None;
}
