use Rattle.std.proofs.Common.{◌≡◌, ◌≤◌, ◌-◌, drop, replicate}
use Rattle.tw_disk.proofs.kept_page.zeros_from.Given as goal

abbrev pub invariant-loop-size : goal.invariant-loop-size
invariant-loop-size l = record { most : l.size ≤ 4096; rest : drop l.size l.page ≡ replicate (4096 - l.size) 0 }

abbrev pub decreases-loop-size : goal.decreases-loop-size
decreases-loop-size l = l.size
