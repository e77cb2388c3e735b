-- The events and the time of each step of a sound history are within the limits.
use Rattle.std.proofs.Common.{◌≡◌, ℕ, suc, zero, [], refl, lit≤}
use Rattle.std.specs.Prelude.{Option, Some, None}
use Rattle.tw_base.specs.declared.history.content.Content.{Content}
use Rattle.tw_base.specs.declared.history.content.Content.TheVariants.{Events, Received}
use Rattle.tw_base.specs.history.History.{History, Step, events_at, events_of, step_at, time_at, time_of}
use Rattle.tw_base.specs.history.Limits.{AreEvents, IsTimeWithinLimits, IsWithinLimits, MayRecord}
use Rattle.tw_base.specs.history.Rules.Rule.{EventsFit}
use Rattle.tw_base.specs.history.Sound.{IsSound}

pub no_events-are : AreEvents []
no_events-are = record { count = lit≤ tt; sizes = tt; bytes = tt }

pub no_events-may : MayRecord []
no_events-may = record { are = no_events-are; fit = lit≤ tt }

pub step-events : (s : Step) → IsWithinLimits s.content → AreEvents (events_of (Some s))
step-events s limits = by s.content limits
  where
    by : (c : Content) → IsWithinLimits c
        → AreEvents (events_of (Some (record { content = c; time = s.time; fresh = s.fresh; root = s.root })))
    by (Events events) are = are
    by (Received t) is = no_events-are

pub sound-may_record : (h : History) (i : ℕ) → IsSound h → MayRecord (events_at h i)
sound-may_record h zero sound = no_events-may
sound-may_record h (suc i) sound = cases (step_at h (suc i)) refl
  where
    cases : (r : Option Step) → step_at h (suc i) ≡ r → MayRecord (events_of r)
    cases None e = no_events-may
    cases (Some s) e =
        record { are = step-events s (sound.steps i s e).limits; fit = (sound.steps i s e).rules EventsFit }

pub sound-time : (h : History) (i : ℕ) → IsSound h → IsTimeWithinLimits (time_at h i)
sound-time h zero sound = tt
sound-time h (suc i) sound = cases (step_at h (suc i)) refl
  where
    cases : (r : Option Step) → step_at h (suc i) ≡ r → IsTimeWithinLimits (time_of r)
    cases None e = tt
    cases (Some s) e = (sound.steps i s e).time
