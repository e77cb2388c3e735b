-- What is listed and arrived at is the plan.
use Rattle.std.proofs.Common.{◌≡◌, List, sym, subst}
use Rattle.tw_base.specs.declared.history.report.Hop.{Hop}
use Rattle.tw_base.specs.declared.history.thread.Key.{Key}
use Rattle.tw_atlas.specs.declared.atlas.Arrival.{Arrival}
use Rattle.tw_atlas.specs.declared.atlas.Leg.{Leg}
use Rattle.tw_atlas.specs.Atlases.{AreArrivals, IsAtlas, leg_hops, stops}
use Rattle.tw_atlas.specs.Earliest.{IsAtlasPlanned}
use Rattle.tw_atlas.specs.Rounds.{legs_of}
use Rattle.tw_atlas.proofs.Leastness.{earliest}
use Rattle.tw_atlas.proofs.RoundLaws.{Whole, legs-whole, pairs-apart}

pub planned : (given : List Hop) (start : Key) (legs : List Leg) (arrivals : List Arrival) → legs ≡ legs_of given start
    → AreArrivals (stops start legs) arrivals
    → IsAtlasPlanned given start (record { legs = legs; arrivals = arrivals })
planned given start legs arrivals are arrive =
    let whole = subst (Whole given start) (sym are) (legs-whole given start) in
    let is : IsAtlas given start (record { legs = legs; arrivals = arrivals }) = record {
      once = pairs-apart (leg_hops legs) whole.once;
      grounded = whole.grounded;
      closed = whole.closed;
      arrivals = arrive;
    } in
    record {
      legs = are;
      is_atlas = is;
      earliest = earliest given start (record { legs = legs; arrivals = arrivals }) is;
    }
