use Rattle.std.proofs.Common.{◌≡◌, ◌++◌, drop, flat_map}
use Rattle.tw_text.specs.Reports.{carried_line}
use Rattle.tw_text.proofs.report.put_carried.Given as goal

-- the text so far, and the lines that are left
abbrev pub invariant-loop-thread : goal.invariant-loop-thread
invariant-loop-thread l = l.text ++ flat_map carried_line (drop l.thread-index l.carried) ≡ l.initial.text ++ flat_map
    carried_line l.carried
