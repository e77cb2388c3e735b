-- How hops are marked while legs are listed.
use Rattle.std.specs.Prelude.{◌≡◌, ℕ, List, [], ◌∷◌, map, nat_le, Option, Some, None, if◌then◌else◌}
use Rattle.tw_base.specs.declared.history.report.Hop.{Hop}
use Rattle.tw_base.specs.declared.history.thread.Key.{Key}
use Rattle.tw_atlas.specs.declared.atlas.Leg.{Leg}
use Rattle.tw_atlas.specs.Rounds.{after_of}

-- each hop has the number of the first of the stops that it goes on from, where there is one
abbrev pub AreMarked : (stops : List Key) → List Hop → List (Option ℕ) → Type 0
AreMarked stops hops marks = marks ≡ map (after_of stops) hops

-- the leg of a hop whose mark is of the last round, whose first stop has this number
abbrev pub marked_leg : (first : ℕ) → (mark : Option ℕ) → Hop → List Leg
marked_leg first None hop = []
marked_leg first (Some after) hop = if nat_le first after then record { after = after; hop = hop } ∷ [] else []
