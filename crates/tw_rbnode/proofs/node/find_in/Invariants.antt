use Rattle.std.proofs.Common.{take}
use Rattle.tw_base.specs.history.Entries.{KeyBelow, key_of}
use Rattle.tw_base.specs.kinds.Lists.{Each}
use Rattle.tw_rbnode.proofs.node.find_in.Given as goal

abbrev pub invariant-loop-place : goal.invariant-loop-place
invariant-loop-place l = Each (λ e. KeyBelow (key_of e) l.key) (take l.place l.entries)
