use Rattle.std.proofs.Common.{◌≡◌, ◌++◌, ℕ, ◌+◌, drop}
use Rattle.std.specs.List.{enumerate_from, flat_map}
use Rattle.tw_atlas.specs.declared.atlas.Leg.{Leg}
use Rattle.tw_atlas.specs.AtlasTexts.{leg_line}
use Rattle.tw_atlas.proofs.printing.put_legs.Given as goal

-- the lines so far, and those of the legs that are left
abbrev pub invariant-loop-i : goal.invariant-loop-i
invariant-loop-i l =
    l.text ++ flat_map (λ (leg : ℕ × Leg). leg_line leg.0 leg.1) (enumerate_from (l.i + 1) (drop l.i l.legs))
    ≡ l.fn.text ++ flat_map (λ (leg : ℕ × Leg). leg_line leg.0 leg.1) (enumerate_from 1 l.legs)
