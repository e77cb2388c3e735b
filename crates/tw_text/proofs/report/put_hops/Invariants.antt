use Rattle.std.proofs.Common.{◌≡◌, ◌++◌, drop, flat_map}
use Rattle.tw_text.specs.Reports.{hop_line}
use Rattle.tw_text.proofs.report.put_hops.Given as goal

-- the text so far, and the lines that are left
abbrev pub invariant-loop-hop : goal.invariant-loop-hop
invariant-loop-hop l = l.text ++ flat_map hop_line (drop l.hop-index l.hops) ≡ l.initial.text ++ flat_map hop_line
    l.hops
