use Rattle.std.proofs.Common.{◌≡◌, ◌≤◌}
use Rattle.tw_base.specs.kinds.Levels.{top_level}
use Rattle.tw_skipproof.specs.Paths.{level_up_to}
use Rattle.tw_skipproof.proofs.hop.level_of_hop.Given as goal

abbrev pub invariant-loop-level : goal.invariant-loop-level
invariant-loop-level l = (level_up_to l.level l.from l.to ≡ level_up_to (top_level l.from) l.from l.to)
    × (l.level ≤ top_level l.from)

abbrev pub decreases-loop-level : goal.decreases-loop-level
decreases-loop-level l = l.level
