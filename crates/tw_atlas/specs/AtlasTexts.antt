-- What the program writes of an atlas.
use Rattle.std.specs.Prelude.{ℕ, List, [], ◌∷◌, ◌++◌, codes}
use Rattle.std.specs.List.{enumerate_from, flat_map}
use Rattle.tw_base.specs.declared.history.thread.Key.{Key}
use Rattle.tw_text.specs.Lines.{line}
use Rattle.tw_text.specs.declared.field.Field.TheVariants.{Named, Number, Word}
use Rattle.tw_atlas.specs.declared.atlas.Arrival.{Arrival}
use Rattle.tw_atlas.specs.declared.atlas.Atlas.{Atlas}
use Rattle.tw_atlas.specs.declared.atlas.Leg.{Leg}

-- the start
abbrev pub start_line : Key → List ℕ
start_line start = line (codes "atlas") (Named start.from ∷ Number start.step ∷ [])

-- the number of a leg, that of the one that it goes on after, and its hop
abbrev pub leg_line : (number : ℕ) → Leg → List ℕ
leg_line number leg =
    line (codes "leg") (Number number ∷ Word (codes "after") ∷ Number leg.after ∷ Word (codes "hop")
    ∷ Named leg.hop.from ∷ Number leg.hop.step ∷ Named leg.hop.by ∷ Number leg.hop.archived ∷ [])

-- a service, the least step to which a chain leads, and the leg that leads there
abbrev pub arrival_line : Arrival → List ℕ
arrival_line arrival = line (codes "arrive") (Named arrival.service ∷ Number arrival.step ∷ Word (codes "leg") ∷ Number arrival.leg ∷ [])

-- the start, the legs, numbered from 1, and the arrivals
abbrev pub atlas_text : (start : Key) → Atlas → List ℕ
atlas_text start atlas =
    start_line start ++ (flat_map (λ (leg : ℕ × Leg). leg_line leg.0 leg.1) (enumerate_from 1 atlas.legs) ++ flat_map arrival_line atlas.arrivals)
