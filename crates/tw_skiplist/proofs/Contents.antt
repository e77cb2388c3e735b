-- What a step that may be kept has for its page.
use Rattle.std.proofs.Common.{◌≡◌, ℕ, ◌<◌, ◌^◌, length, refl, sym, arith, Option, Some, None}
use Rattle.std.specs.Prelude.{IfSome}
use Rattle.tw_base.specs.declared.history.content.Content.{Content}
use Rattle.tw_base.specs.declared.history.content.Content.TheVariants.{Events, Received}
use Rattle.tw_base.specs.history.History.{Step, events_of, thread_of, time_of}
use Rattle.tw_base.specs.history.Limits.{FitTogether, IsTimeWithinLimits, IsWithinLimits, MayRecord}
use Rattle.tw_skiplist.specs.Appended.{appended_events, appended_thread}
use Rattle.tw_skiplist.specs.Keeping.{MayBeKept}
use Rattle.tw_steppage.specs.StepBytes.{stream}
use Rattle.tw_steppage.proofs.StepCodecs.{HasCounts}
use Rattle.tw_skiplist.proofs.Streams.{length-stream}

-- ---- by its content

content_records : (c : Content) → IsWithinLimits c → FitTogether (appended_events c) → MayRecord (appended_events c)
content_records (Events events) within together = record { are = within; fit = together }
content_records (Received t) within together =
    record { are = record { count = omega arith; sizes = tt; bytes = tt }; fit = omega arith }

content_counts : (c : Content) (first : ℕ) → IsWithinLimits c → FitTogether (appended_events c)
    → (length (stream (appended_events c)) ≡ 0 → first ≡ 0) → first < 2 ^ 64
    → HasCounts (appended_thread c) (length (appended_events c))
    (record { page = first; size = length (stream (appended_events c)) })
content_counts (Events events) first within together none small =
    (within.count, (let size = length-stream events in omega (arith, size, within.count, together), small))
content_counts (Received t) first within together none small =
    ((λ j. (0, record { page = sym (none refl) j; size = 0 })), within)

-- ---- of a step of a history

pub may_record : (o : Option Step) → IfSome o MayBeKept → MayRecord (events_of o)
may_record None may = record { are = record { count = omega arith; sizes = tt; bytes = tt }; fit = omega arith }
may_record (Some s) may = content_records s.content may.content may.together

pub may_count : (o : Option Step) (first : ℕ) → IfSome o MayBeKept → (length (stream (events_of o)) ≡ 0 → first ≡ 0)
    → first < 2 ^ 64
    → HasCounts (thread_of o) (length (events_of o)) (record { page = first; size = length (stream (events_of o)) })
may_count None first may none small = (omega arith, (omega arith, small))
may_count (Some s) first may none small = content_counts s.content first may.content may.together none small

pub may_time : (o : Option Step) → IfSome o MayBeKept → IsTimeWithinLimits (time_of o)
may_time None may = tt
may_time (Some s) may = may.time
