-- The events of a schedule are within the limits of a step.
use Rattle.std.proofs.Common.{◌≡◌, ℕ, suc, zero, ◌*◌, ◌≤◌, ◌<◌, List, [], ◌∷◌, length, replicate, refl, ◌∙◌, arith}
use Rattle.std.specs.Prelude.{◌%◌, sum_by}
use Rattle.std.proofs.lemmas.List.{length-append}
use Rattle.std.proofs.lemmas.List.Sums.{sum_by-append}
use Rattle.tw_base.specs.history.Limits.{MayRecord}
use Rattle.tw_base.specs.kinds.Bytes.{AreBytes}
use Rattle.tw_base.specs.kinds.Lists.{Each}
use Rattle.tw_base.proofs.lemmas.kinds.ListLemmas.{Each-append}
use Rattle.tw_generate.specs.Draws.{after_draws, drawn, drawn_count, drawn_event, drawn_events, next_state, step_events}
use Rattle.tw_generate.specs.Schedules.{end_event}

each-same : (n b : ℕ) → b < 256 → AreBytes (replicate n b)
each-same zero b small = tt
each-same (suc n) b small = (small, each-same n b small)

event-length : (v : ℕ) → length (drawn_event v) ≡ 200
event-length v = refl

event-bytes : (v : ℕ) → AreBytes (drawn_event v)
event-bytes v = each-same 200 (v % 256) (omega arith)

abbrev size : List ℕ → ℕ
size event = length event

record Fits (events : List (List ℕ)) (n : ℕ) : Type 0 where
  count : length events ≡ n
  sizes : Each (λ event. length event ≤ 1024) events
  bytes : Each AreBytes events
  sum : sum_by size events ≡ 200 * n

drawn-fit : (x n : ℕ) → Fits (drawn_events x n) n
unfolding drawn_events
drawn-fit x zero = record { count = refl; sizes = tt; bytes = tt; sum = refl }
drawn-fit x (suc n) =
    let rest = drawn-fit x n in
    let last : List ℕ = drawn_event (drawn (after_draws x (suc n))) in
    record {
      count = length-append (drawn_events x n) (last ∷ []) ∙ omega (arith, rest.count);
      sizes = Each-append _ (drawn_events x n) (last ∷ []) rest.sizes
          (omega (arith, event-length (drawn (after_draws x (suc n)))), tt);
      bytes = Each-append _ (drawn_events x n) (last ∷ []) rest.bytes (event-bytes (drawn (after_draws x (suc n))), tt);
      sum = sum_by-append size (drawn_events x n) (last ∷ [])
          ∙ omega (arith, rest.sum, event-length (drawn (after_draws x (suc n))));
    }

pub step-may : (x : ℕ) → MayRecord (step_events x)
step-may x =
    let fits = drawn-fit (next_state x) (drawn_count x) in
    let few : drawn_count x ≤ 4 = omega arith in
    record {
      are = record { count = omega (arith, fits.count, few); sizes = fits.sizes; bytes = fits.bytes };
      fit = omega (arith, fits.sum, few);
    }

-- a step has an event
pub step-some : (x : ℕ) → 0 < length (step_events x)
step-some x = let fits = drawn-fit (next_state x) (drawn_count x) in omega (arith, fits.count)

pub end-may : MayRecord end_event
end-may = record {
  are = record {
    count = omega arith;
    sizes = (omega arith, tt);
    bytes = ((omega arith, (omega arith, (omega arith, tt))), tt);
  };
  fit = omega arith;
}
