-- The tables of refusals, whose lines are tried in their order.
use Rattle.std.specs.Prelude.{ℕ, List, length, Bool, true, false, ◌&&◌, nat_le, nat_lt, if◌then◌else◌, find, sum_by, Option, Some, None}
use Rattle.std.specs.Str.{bytes_eq}
use Rattle.tw_base.specs.declared.history.thread.Entry.{Entry}
use Rattle.tw_base.specs.declared.kinds.limits.TheConstants.{LAST_STEP, MOST_EVENTS, MOST_EVENT_BYTES, MOST_STEP_BYTES}
use Rattle.tw_base.specs.declared.history.refusal.Refusal.{Refusal}
use Rattle.tw_base.specs.declared.history.refusal.Refusal.TheVariants.{Own, NoStep, NoEvent, NoThread, HasThread, TooMany, TooLong, Full, ClockBack, Reopen}

abbrev pub or_else : Option Refusal → Option Refusal → Option Refusal
or_else (Some refusal) other = Some refusal
or_else None other = other

-- a call before met a disk fault
abbrev pub broken_refusal : (is_broken : Bool) → Option Refusal
broken_refusal true = Some Reopen
broken_refusal false = None

-- ---- adding a step

-- there is no further step
abbrev pub full_refusal : (steps : ℕ) → Option Refusal
full_refusal steps = if nat_le LAST_STEP steps then Some Full else None

-- the first event that is longer than 1,024 bytes
abbrev pub first_long : List (List ℕ) → Option (List ℕ)
first_long events = find (λ event. nat_lt MOST_EVENT_BYTES (length event)) events

-- the bytes of all events
abbrev pub events_size : List (List ℕ) → ℕ
events_size events = sum_by (λ event. length event) events

abbrev pub length_refusal : (long : Option (List ℕ)) → (bytes : ℕ) → Option Refusal
length_refusal (Some event) bytes = Some (TooLong (length event))
length_refusal None bytes = if nat_lt MOST_STEP_BYTES bytes then Some (TooLong bytes) else None

-- events beyond the limits of a step: more than 1,024; one longer than 1,024 bytes, the first such one; more than 65,536 bytes in all
unfoldable pub limits_refusal : List (List ℕ) → Option Refusal
limits_refusal events =
    if nat_lt MOST_EVENTS (length events) then Some (TooMany (length events)) else length_refusal (first_long events) (events_size events)

-- the given time is below the greatest one so far
abbrev pub clock_refusal : (clock time : Option ℕ) → Option Refusal
clock_refusal (Some last) (Some given) = if nat_lt given last then Some (ClockBack last given) else None
clock_refusal clock time = None

-- a call before met a disk fault; there is no further step; the events are beyond the limits; the clock went back
unfoldable pub append_refusal : (is_broken : Bool) → (steps : ℕ) → (clock : Option ℕ) → List (List ℕ) → (time : Option ℕ) → Option Refusal
append_refusal is_broken steps clock events time =
    or_else (broken_refusal is_broken) (or_else (full_refusal steps) (or_else (limits_refusal events) (clock_refusal clock time)))

-- ---- receiving a message

-- a call before met a disk fault; the thread is one of the service itself
unfoldable pub own_refusal : (is_broken : Bool) → (name from : List ℕ) → Option Refusal
own_refusal is_broken name from = or_else (broken_refusal is_broken) (if bytes_eq from name then Some Own else None)

-- there is no further step; the clock went back
unfoldable pub archive_refusal : (steps : ℕ) → (clock time : Option ℕ) → Option Refusal
archive_refusal steps clock time = or_else (full_refusal steps) (clock_refusal clock time)

-- ---- telling the last step

-- a call before met a disk fault; there is no step, or the earlier one is above the last
unfoldable pub thread_refusal : (is_broken : Bool) → (last since : ℕ) → Option Refusal
thread_refusal is_broken last since =
    or_else (broken_refusal is_broken) (if nat_lt 0 last && nat_le since last then None else Some (NoStep last))

-- ---- proving the authenticator of a step

-- a call before met a disk fault; the steps aren't in their order, in which the lower one may be 0
unfoldable pub link_refusal : (is_broken : Bool) → (last step top : ℕ) → Option Refusal
link_refusal is_broken last step top =
    or_else (broken_refusal is_broken) (if nat_le step top && (nat_le 1 top && nat_le top last) then None else Some (NoStep last))

-- ---- proving a thread, and that there is none

-- no step up to this one received a thread of the key
abbrev pub no_thread : Option Entry → Option Refusal
no_thread None = Some NoThread
no_thread (Some e) = None

-- this step received one
abbrev pub has_thread : Option Entry → Option Refusal
has_thread None = None
has_thread (Some e) = Some (HasThread e.archived)

-- ---- a high map file

-- a call before met a disk fault; the top isn't a step from 1 on
unfoldable pub top_refusal : (is_broken : Bool) → (last top : ℕ) → Option Refusal
top_refusal is_broken last top = or_else (broken_refusal is_broken) (if nat_le 1 top && nat_le top last then None else Some (NoStep last))

-- ---- proving an event

-- whether 1 <= step <= top <= last
abbrev pub is_in_order : (last step top : ℕ) → Bool
is_in_order last step top = (nat_le 1 step && nat_le step top) && nat_le top last

-- a call before met a disk fault; the steps aren't in their order
unfoldable pub order_refusal : (is_broken : Bool) → (last step top : ℕ) → Option Refusal
order_refusal is_broken last step top = or_else (broken_refusal is_broken) (if is_in_order last step top then None else Some (NoStep last))

-- the index isn't below the count of events
unfoldable pub event_refusal : (count index : ℕ) → Option Refusal
event_refusal count index = if nat_lt index count then None else Some (NoEvent count)
