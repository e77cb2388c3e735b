use Rattle.std.proofs.Common.{◌≡◌, ◌++◌, take}
use Rattle.std.specs.Prelude.{map}
use Rattle.tw_atlas.specs.declared.atlas.Leg.{Leg}
use Rattle.tw_atlas.specs.Reaching.{target}
use Rattle.tw_atlas.specs.Rounds.{left_over, round_of_hops}
use Rattle.tw_atlas.proofs.rounds.list_marked.Given as goal

-- the legs of the hops up to here are listed
abbrev pub invariant-loop-i : goal.invariant-loop-i
invariant-loop-i l =
    let at = l.fn.listed.stops.items in
    let more = round_of_hops at (left_over (take l.first at) (take l.i l.hops)) in
    record {
      legs : l.listed.legs ≡ l.fn.listed.legs ++ more;
      stops : l.listed.stops.items ≡ at ++ map (λ (leg : Leg). target leg.hop) more;
    }
