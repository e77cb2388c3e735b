use Rattle.std.proofs.Common.{◌≡◌, [], length, replicate, vec_len}
use Rattle.tw_disk.specs.Model.{spoilt}
use Rattle.tw_disk.specs.LooseSteps.{loose_of, AllBelow}
use Rattle.tw_disk.proofs.crash.spoil.Given as goal

abbrev pub invariant-loop-call : goal.invariant-loop-call
invariant-loop-call l = record {
  below : AllBelow (length l.pages.items) (loose_of [] l.calls.items);
  rest : spoilt (replicate 4096 l.byte) (loose_of [] l.calls.items) l.pages.items ≡ spoilt (replicate 4096 l.byte)
      (loose_of [] l.initial.calls.items) l.initial.pages.items;
}

abbrev pub decreases-loop-call : goal.decreases-loop-call
decreases-loop-call l = vec_len l.calls
