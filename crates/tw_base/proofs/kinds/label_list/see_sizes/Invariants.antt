use Rattle.std.proofs.Common.{take}
use Rattle.tw_base.specs.kinds.Digests.{AllDigests}
use Rattle.tw_base.proofs.kinds.label_list.see_sizes.Given as goal

abbrev pub invariant-loop-digest : goal.invariant-loop-digest
invariant-loop-digest l = AllDigests (take l.digest-index l.digests)
