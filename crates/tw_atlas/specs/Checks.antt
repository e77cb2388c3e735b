-- The checks of an atlas as truth values.
use Rattle.std.specs.Prelude.{ℕ, suc, List, [], ◌∷◌, slice_get, Bool, true, false, not, ◌&&◌, ◌||◌, ◌==◌, nat_le, nat_lt, Option, Some, None}
use Rattle.std.specs.List.{list_all, list_any}
use Rattle.std.specs.Ordering.{is_lt, nat_cmp}
use Rattle.std.specs.Cmp.Lexicographic.{slice_cmp}
use Rattle.std.specs.Str.{bytes_eq}
use Rattle.tw_base.specs.declared.history.report.Hop.{Hop}
use Rattle.tw_base.specs.declared.history.thread.Key.{Key}
use Rattle.tw_atlas.specs.declared.atlas.Arrival.{Arrival}
use Rattle.tw_atlas.specs.declared.atlas.Atlas.{Atlas}
use Rattle.tw_atlas.specs.declared.atlas.Leg.{Leg}
use Rattle.tw_atlas.specs.Atlases.{stops}
use Rattle.tw_atlas.specs.Reaching.{goes_on_from, target}

abbrev pub is_same : Hop → Hop → Bool
is_same a b = bytes_eq a.from b.from && (a.step == b.step && (bytes_eq a.by b.by && a.archived == b.archived))

abbrev pub is_among_hops : List Hop → Hop → Bool
is_among_hops hops hop = list_any (λ other. is_same other hop) hops

abbrev pub is_listed : List Leg → Hop → Bool
is_listed legs hop = list_any (λ (leg : Leg). is_same leg.hop hop) legs

abbrev pub are_once : List Leg → Bool
are_once [] = true
are_once (leg ∷ legs) = not (is_listed legs leg.hop) && are_once legs

abbrev pub follows : Option Key → Hop → Bool
follows None hop = false
follows (Some at) hop = goes_on_from at hop

module _ (given : List Hop) (start : Key) (legs : List Leg) where
  -- the leg with the number k + 1
  abbrev pub is_grounded : (k : ℕ) → Leg → Bool
  is_grounded k leg = nat_le leg.after k && (follows (slice_get (stops start legs) leg.after) leg.hop && is_among_hops given leg.hop)

  -- those from that number on
  abbrev pub are_grounded : (k : ℕ) → List Leg → Bool
  are_grounded k [] = true
  are_grounded k (leg ∷ rest) = is_grounded k leg && are_grounded (suc k) rest

module _ (start : Key) (legs : List Leg) where
  abbrev pub is_reached : Hop → Bool
  is_reached hop = goes_on_from start hop || list_any (λ (leg : Leg). goes_on_from (target leg.hop) hop) legs

  abbrev pub are_closed : List Hop → Bool
  are_closed given = list_all (λ hop. not (is_reached hop) || is_listed legs hop) given

abbrev pub is_below_first : Arrival → List Arrival → Bool
is_below_first arrival [] = true
is_below_first arrival (next ∷ rest) = is_lt (slice_cmp nat_cmp arrival.service next.service)

abbrev pub names_rise : List Arrival → Bool
names_rise [] = true
names_rise (arrival ∷ rest) = is_below_first arrival rest && names_rise rest

abbrev pub stands : Option Key → Arrival → Bool
stands None arrival = false
stands (Some at) arrival = bytes_eq at.from arrival.service && at.step == arrival.step

-- the stop with the number is of the arrival's service, and at a lower step, or at the same one and before its own
abbrev pub is_better : (number : ℕ) → Key → Arrival → Bool
is_better number at arrival = bytes_eq at.from arrival.service && (nat_lt at.step arrival.step || (at.step == arrival.step && nat_lt number arrival.leg))

-- none of the stops, the first of which has this number
abbrev pub none_better : (number : ℕ) → List Key → Arrival → Bool
none_better number [] arrival = true
none_better number (at ∷ rest) arrival = not (is_better number at arrival) && none_better (suc number) rest arrival

abbrev pub is_best : (at : List Key) → Arrival → Bool
is_best at arrival = stands (slice_get at arrival.leg) arrival && none_better 0 at arrival

abbrev pub arrives : List Arrival → (service : List ℕ) → Bool
arrives arrivals service = list_any (λ (arrival : Arrival). bytes_eq arrival.service service) arrivals

abbrev pub all_arrive : (start : Key) → List Leg → List Arrival → Bool
all_arrive start legs arrivals = arrives arrivals start.from && list_all (λ (leg : Leg). arrives arrivals leg.hop.by) legs

-- all of them
abbrev pub atlas_passes : (given : List Hop) → (start : Key) → Atlas → Bool
atlas_passes given start atlas =
    are_once atlas.legs && (are_grounded given start atlas.legs 0 atlas.legs && (are_closed start atlas.legs given
    && (names_rise atlas.arrivals && (list_all (is_best (stops start atlas.legs)) atlas.arrivals && all_arrive start atlas.legs atlas.arrivals))))
