use Rattle.std.proofs.Common.{◌≡◌}
use Rattle.std.specs.Prelude.{take}
use Rattle.tw_diskcmd.specs.Heads.{head_lines}
use Rattle.tw_diskcmd.proofs.heads.print_heads.Given as goal

abbrev pub invariant-loop-head : goal.invariant-loop-head
invariant-loop-head l = l.lines ≡ head_lines (take l.head-index l.heads)
