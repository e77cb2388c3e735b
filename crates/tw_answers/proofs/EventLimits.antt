-- Events within the limits of a step.
use Rattle.std.proofs.Common.{◌≡◌, ℕ, ◌*◌, ◌≤◌, List, [], ◌∷◌, length, refl, sym, ◌∙◌, arith, lit≤, Bool, true, false}
use Rattle.std.specs.Prelude.{Option, Some, None, nat_lt, if◌then◌else◌}
use Rattle.std.specs.Option.{option_map}
use Rattle.std.proofs.lemmas.Bool.{ltb-false}
use Rattle.std.proofs.lemmas.List.Sums.{sum_by-cons}
use Rattle.tw_base.specs.kinds.Lists.{Each}
use Rattle.tw_base.specs.declared.kinds.limits.TheConstants.{MOST_EVENT_BYTES}
use Rattle.tw_answers.specs.Limits.{events_size, first_long}

-- where no event is longer than 1,024 bytes, each is at most so long
pub none_long : (events : List (List ℕ)) → first_long events ≡ None → Each (λ event. length event ≤ MOST_EVENT_BYTES)
    events
none_long [] none = tt
none_long (event ∷ events) none =
    let cases : (b : Bool) → nat_lt MOST_EVENT_BYTES (length event) ≡ b → (if b then Some event else first_long events)
    ≡ None → Each (λ e. length e ≤ MOST_EVENT_BYTES) (event ∷ events) =
    elim [
      | true ↦ λ is some. cc
      | false ↦ λ is rest. (ltb-false MOST_EVENT_BYTES (length event) is, none_long events rest)
    ] in
    cases (nat_lt MOST_EVENT_BYTES (length event)) refl none

-- and together they have at most so many bytes
pub bytes-short : (events : List (List ℕ)) → Each (λ event. length event ≤ MOST_EVENT_BYTES) events
    → events_size events ≤ MOST_EVENT_BYTES * length events
bytes-short [] short = lit≤ tt
bytes-short (event ∷ events) short =
    omega (arith, short.0, bytes-short events short.1, sum_by-cons (λ (e : List ℕ). length e) event events)

no_first : (o : Option (List ℕ)) → option_map (λ event. length event) o ≡ None → o ≡ None
no_first None none = refl
no_first (Some event) none = cc

pub short_events : (events : List (List ℕ)) (o : Option ℕ) → o ≡ option_map (λ event. length event) (first_long events)
    → o ≡ None → Each (λ event. length event ≤ MOST_EVENT_BYTES) events
short_events events o is none = none_long events (no_first (first_long events) (sym is ∙ none))
