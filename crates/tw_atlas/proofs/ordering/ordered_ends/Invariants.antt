use Rattle.std.proofs.Common.{◌≡◌, take}
use Rattle.tw_atlas.specs.HopEnds.{hop_entries}
use Rattle.tw_atlas.specs.Rounds.{ordered}
use Rattle.tw_atlas.proofs.ordering.ordered_ends.Given as goal

abbrev pub invariant-loop-hop : goal.invariant-loop-hop
invariant-loop-hop l = l.all.entries ≡ hop_entries (ordered (take l.hop-index l.hops))
