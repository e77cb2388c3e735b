-- What no table refuses of a service that was just opened: a call before, or a message that can't be read.
use Rattle.std.proofs.Common.{ℕ, List, length, Bool, true, false}
use Rattle.std.specs.Prelude.{Option, Some, None, if◌then◌else◌, nat_le, nat_lt, ◌&&◌}
use Rattle.std.specs.Str.{bytes_eq}
use Rattle.tw_base.specs.declared.kinds.limits.TheConstants.{LAST_STEP, MOST_EVENTS, MOST_STEP_BYTES}
use Rattle.tw_base.specs.declared.history.refusal.Refusal.{Refusal}
use Rattle.tw_base.specs.declared.history.refusal.Refusal.TheVariants.{NoStep, NoThread, HasThread, TooMany, TooLong}
use Rattle.tw_base.specs.declared.history.refusal.Refusal.TheVariants.{Full, ClockBack, Own}
use Rattle.tw_answers.specs.Limits.{append_refusal, clock_refusal, events_size, first_long, full_refusal, is_in_order}
use Rattle.tw_answers.specs.Limits.{length_refusal, limits_refusal, link_refusal, or_else, order_refusal, own_refusal}
use Rattle.tw_answers.specs.Limits.{thread_refusal, top_refusal}
use Rattle.tw_answers.specs.Refusals.{IsHasThread, IsNoThread, IsTooLong}
use Rattle.tw_answers.proofs.TableAnswers.{Of}
use Rattle.tw_diskcmd.proofs.Results.{CanCome}

can_if : (b : Bool) (o q : Option Refusal) → Of CanCome o → Of CanCome q → Of CanCome (if b then o else q)
can_if true o q one other = one
can_if false o q one other = other

can_or : (o q : Option Refusal) → Of CanCome o → Of CanCome q → Of CanCome (or_else o q)
can_or None q one other = other
can_or (Some r) q one other = one

lengths_can : (o : Option (List ℕ)) (bytes : ℕ) → Of CanCome (length_refusal o bytes)
lengths_can (Some event) bytes = λ never. never
lengths_can None bytes = can_if (nat_lt MOST_STEP_BYTES bytes) (Some (TooLong bytes)) None (λ never. never) tt

clock_can : (clock time : Option ℕ) → Of CanCome (clock_refusal clock time)
clock_can (Some last) (Some given) = can_if (nat_lt given last) (Some (ClockBack last given)) None (λ never. never) tt
clock_can (Some last) None = tt
clock_can None time = tt

pub append_can : (steps : ℕ) (clock : Option ℕ) (events : List (List ℕ)) (time : Option ℕ)
    → Of CanCome (append_refusal false steps clock events time)
unfolding append_refusal limits_refusal
append_can steps clock events time =
    can_or (full_refusal steps) _ (can_if (nat_le LAST_STEP steps) (Some Full) None (λ never. never) tt)
    (can_or (limits_refusal events) _
    (can_if (nat_lt MOST_EVENTS (length events)) (Some (TooMany (length events))) (length_refusal (first_long events)
    (events_size events)) (λ never. never) (lengths_can (first_long events) (events_size events)))
    (clock_can clock time))

pub order_can : (last step top : ℕ) → Of CanCome (order_refusal false last step top)
unfolding order_refusal
order_can last step top = can_if (is_in_order last step top) None (Some (NoStep last)) tt (λ never. never)

pub thread_can : (last since : ℕ) → Of CanCome (thread_refusal false last since)
unfolding thread_refusal
thread_can last since = can_if (nat_lt 0 last && nat_le since last) None (Some (NoStep last)) tt (λ never. never)

pub link_can : (last step top : ℕ) → Of CanCome (link_refusal false last step top)
unfolding link_refusal
link_can last step top = can_if (nat_le step top && (nat_le 1 top && nat_le top last)) None (Some (NoStep last)) tt
    (λ never. never)

pub top_can : (last top : ℕ) → Of CanCome (top_refusal false last top)
unfolding top_refusal
top_can last top = can_if (nat_le 1 top && nat_le top last) None (Some (NoStep last)) tt (λ never. never)

pub own_can : (name from : List ℕ) → Of CanCome (own_refusal false name from)
unfolding own_refusal
own_can name from = can_if (bytes_eq from name) (Some Own) None (λ never. never) tt

-- and neither is a refusal of a thread that is asked for, or of a file
pub no_thread_can : (r : Refusal) → IsNoThread r → CanCome r
no_thread_can NoThread is never = never
no_thread_can _ is never = is

pub has_thread_can : (r : Refusal) → IsHasThread r → CanCome r
has_thread_can (HasThread archived) is never = never
has_thread_can _ is never = is

pub too_long_can : (r : Refusal) → IsTooLong r → CanCome r
too_long_can (TooLong bytes) is never = never
too_long_can _ is never = is
