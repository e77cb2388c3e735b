use Rattle.std.proofs.Common.{◌≡◌, ◌+◌, take}
use Rattle.tw_atlas.specs.Rounds.{after_of}
use Rattle.tw_atlas.proofs.MarkLaws.{mixed}
use Rattle.tw_atlas.proofs.rounds.mark_from.Given as goal

-- the marks up to here are those with this stop, the others those without it
abbrev pub invariant-loop-i : goal.invariant-loop-i
invariant-loop-i l = l.marks ≡ mixed (after_of (take (l.number + 1) l.stops)) (after_of (take l.number l.stops)) l.hops
    l.i
