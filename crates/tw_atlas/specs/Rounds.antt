-- The legs of an atlas, in rounds: the order in which a plan lists them.
use Rattle.std.specs.Prelude.{ℕ, suc, zero, List, [], ◌∷◌, ◌++◌, length, filter, fold, Option, option_map, is_none}
use Rattle.std.specs.List.{filter_map, position_from}
use Rattle.std.specs.Ordering.{match_ordering, ordering_then}
use Rattle.std.specs.declared.cmp.Ordering.{Ordering}
use Rattle.tw_base.specs.declared.history.report.Hop.{Hop}
use Rattle.tw_base.specs.declared.history.thread.Key.{Key}
use Rattle.tw_base.specs.history.Entries.{key_cmp}
use Rattle.tw_atlas.specs.declared.atlas.Leg.{Leg}
use Rattle.tw_atlas.specs.Atlases.{stops}
use Rattle.tw_atlas.specs.Reaching.{source, goes_on_from, target}

-- by service, step, recorder and archived step
abbrev pub hop_cmp : Hop → Hop → Ordering
hop_cmp a b = ordering_then (key_cmp (source a) (source b)) (key_cmp (target a) (target b))

-- a hop at its place among ordered ones, unless it is there
abbrev pub put_hop : Hop → List Hop → List Hop
put_hop hop [] = hop ∷ []
put_hop hop (first ∷ rest) = match_ordering (hop_cmp hop first) (hop ∷ first ∷ rest) (first ∷ rest) (first ∷ put_hop hop rest)

-- the different hops of a list, in order
abbrev pub ordered : List Hop → List Hop
ordered hops = fold (λ put hop. put_hop hop put) [] hops

-- the number of the first stop from which the hop goes on
abbrev pub after_of : (stops : List Key) → Hop → Option ℕ
after_of stops hop = position_from (λ at. goes_on_from at hop) 0 stops

-- a round: of the hops left, in their order, those that go on from a stop of an earlier round, and those that don't
abbrev pub round_of_hops : (stops : List Key) → (left : List Hop) → List Leg
round_of_hops stops left = filter_map (λ hop. option_map (λ after. record { after = after; hop = hop }) (after_of stops hop)) left

abbrev pub left_over : (stops : List Key) → (left : List Hop) → List Hop
left_over stops left = filter (λ hop. is_none (after_of stops hop)) left

-- so many rounds more
abbrev pub rounds : (more : ℕ) → (start : Key) → List Leg → (left : List Hop) → List Leg
rounds zero start legs left = legs
rounds (suc more) start legs left = rounds more start (legs ++ round_of_hops (stops start legs) left) (left_over (stops start legs) left)

-- the legs of all rounds: each round but the last lists a hop, so there are at most as many as different hops
abbrev pub legs_of : (given : List Hop) → (start : Key) → List Leg
legs_of given start = rounds (length (ordered given)) start [] (ordered given)
