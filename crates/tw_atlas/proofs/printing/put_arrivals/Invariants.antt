use Rattle.std.proofs.Common.{◌≡◌, ◌++◌, take}
use Rattle.std.specs.List.{flat_map}
use Rattle.tw_atlas.specs.AtlasTexts.{arrival_line}
use Rattle.tw_atlas.proofs.printing.put_arrivals.Given as goal

abbrev pub invariant-loop-arrival : goal.invariant-loop-arrival
invariant-loop-arrival l = l.text ≡ l.fn.text ++ flat_map arrival_line (take l.arrival-index l.arrivals)
