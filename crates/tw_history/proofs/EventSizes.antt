-- How many bytes the events of a step may have together.
use Rattle.std.proofs.Common.{ℕ, ◌*◌, ◌≤◌, List, [], ◌∷◌, length, arith, sum_by}
use Rattle.std.proofs.lemmas.List.Sums.{sum_by-cons}
use Rattle.tw_base.specs.declared.kinds.limits.TheConstants.{MOST_EVENT_BYTES}
use Rattle.tw_base.specs.kinds.Lists.{Each}

pub sizes-bound : (events : List (List ℕ)) → Each (λ event. length event ≤ MOST_EVENT_BYTES) events
    → sum_by (λ event. length event) events ≤ MOST_EVENT_BYTES * length events
sizes-bound [] all = omega arith
sizes-bound (event ∷ events) all = let rest = sizes-bound events all.1 in
    omega (arith, rest, all.0, sum_by-cons (λ e. length e) event events)
