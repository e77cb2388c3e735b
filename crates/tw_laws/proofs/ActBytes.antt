-- The events of a schedule are bytes.
use Rattle.std.proofs.Common.{ℕ, suc, zero, ◌<◌, [], ◌∷◌, replicate, Bool, true, false, arith}
use Rattle.std.specs.Prelude.{◌%◌, ◌==◌, if◌then◌else◌}
use Rattle.tw_base.specs.kinds.Bytes.{AreBytes}
use Rattle.tw_base.specs.kinds.Lists.{Each}
use Rattle.tw_base.proofs.lemmas.kinds.ListLemmas.{Each-append}
use Rattle.tw_generate.specs.Draws.{after_draws, after_step, drawn, drawn_count, drawn_event, drawn_events, next_state}
use Rattle.tw_generate.specs.Draws.{step_events}
use Rattle.tw_generate.specs.Schedules.{ScheduledAct, after_rounds, all_append, all_tell, end_event, round_of_acts}
use Rattle.tw_generate.specs.Schedules.{rounds_of, schedule}
use Rattle.tw_generate.specs.Schedules.ScheduledAct.{Appends, Tells}

abbrev pub HasBytes : ScheduledAct → Type 0
HasBytes (Appends who events) = Each AreBytes events
HasBytes (Tells from to) = Unit {0}

each-same : (n b : ℕ) → b < 256 → AreBytes (replicate n b)
each-same zero b small = tt
each-same (suc n) b small = (small, each-same n b small)

event-bytes : (v : ℕ) → AreBytes (drawn_event v)
event-bytes v = each-same 200 (v % 256) (omega arith)

drawn-bytes : (x n : ℕ) → Each AreBytes (drawn_events x n)
unfolding drawn_events
drawn-bytes x zero = tt
drawn-bytes x (suc n) = Each-append AreBytes (drawn_events x n) (drawn_event (drawn (after_draws x (suc n))) ∷ [])
    (drawn-bytes x n) (event-bytes (drawn (after_draws x (suc n))), tt)

step-bytes : (x : ℕ) → Each AreBytes (step_events x)
step-bytes x = drawn-bytes (next_state x) (drawn_count x)

end-bytes : Each AreBytes end_event
end-bytes = ((omega arith, (omega arith, (omega arith, tt))), tt)

tell-bytes : (b : Bool) → Each HasBytes (if b then all_tell else [])
tell-bytes true = (tt, (tt, (tt, (tt, (tt, (tt, tt))))))
tell-bytes false = tt

round-bytes : (x number : ℕ) → Each HasBytes (round_of_acts x number)
round-bytes x number =
    (step-bytes x, (step-bytes (after_step x), (step-bytes (after_step (after_step x)), tell-bytes (number % 50 == 0))))

rounds-bytes : (number n : ℕ) → Each HasBytes (rounds_of number n)
unfolding rounds_of
rounds-bytes number zero = tt
rounds-bytes number (suc n) =
    Each-append HasBytes (rounds_of number n) (round_of_acts (after_rounds number n) (suc n)) (rounds-bytes number n)
    (round-bytes (after_rounds number n) (suc n))

pub schedule-bytes : (number rounds : ℕ) → Each HasBytes (schedule number rounds)
schedule-bytes number rounds =
    Each-append HasBytes (rounds_of number rounds) (all_append end_event end_event end_event)
    (rounds-bytes number rounds) (end-bytes, (end-bytes, (end-bytes, tt)))
