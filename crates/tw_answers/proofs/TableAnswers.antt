-- What the refusals of the tables are.
use Rattle.std.proofs.Common.{◌≡◌, ℕ, ◌<◌, List, length, ap, sym, subst, Bool, true, false}
use Rattle.std.specs.Prelude.{Option, Some, None, if◌then◌else◌, nat_le, nat_lt, ◌&&◌}
use Rattle.std.proofs.lemmas.Bool.{lt-ltb}
use Rattle.tw_base.specs.declared.kinds.limits.TheConstants.{LAST_STEP, MOST_EVENTS, MOST_STEP_BYTES}
use Rattle.tw_answers.specs.Refusals.{IsBadPageRefusal, IsFault, IsNoEvent}
use Rattle.tw_answers.specs.Limits.{append_refusal, clock_refusal, event_refusal, events_size, first_long, full_refusal}
use Rattle.tw_answers.specs.Limits.{is_in_order, length_refusal, limits_refusal, link_refusal, or_else, order_refusal}
use Rattle.tw_answers.specs.Limits.{thread_refusal, top_refusal}
use Rattle.tw_base.specs.declared.history.refusal.Refusal.{Refusal}
use Rattle.tw_base.specs.declared.history.refusal.Refusal.TheVariants.{NoStep, NoEvent, TooMany, TooLong, Full}
use Rattle.tw_base.specs.declared.history.refusal.Refusal.TheVariants.{ClockBack, BadPage, Reopen}

-- ---- refusals of the tables are no faults

-- what holds of the refusal, where there is one
abbrev pub Of : (Refusal → Type 0) → Option Refusal → Type 0
Of P None = Unit {0}
Of P (Some r) = P r

pub of_if : (P : Refusal → Type 0) (b : Bool) (o q : Option Refusal) → Of P o → Of P q → Of P (if b then o else q)
of_if P true o q one other = one
of_if P false o q one other = other

pub of_some : (P : Refusal → Type 0) (o : Option Refusal) (r : Refusal) → Some r ≡ o → Of P o → P r
of_some P o r is all = subst (Of P) (sym is) all

-- of no page, disk or memory
abbrev pub NoFault : Refusal → Type 0
NoFault r = IsFault r → ⊥

-- and not the answer after a disk fault
abbrev pub IsTold : Refusal → Type 0
IsTold r = (IsFault r → ⊥) × (r ≡ Reopen → ⊥)

is_told_count : (n : ℕ) → IsTold (TooMany n)
is_told_count n = (λ is. is, λ is. cc)

is_told_length : (n : ℕ) → IsTold (TooLong n)
is_told_length n = (λ is. is, λ is. cc)

lengths_told : (o : Option (List ℕ)) (bytes : ℕ) → Of IsTold (length_refusal o bytes)
lengths_told (Some event) bytes = is_told_length (length event)
lengths_told None bytes = of_if IsTold (nat_lt MOST_STEP_BYTES bytes) (Some (TooLong bytes)) None (is_told_length bytes)
    tt

pub of_or : (P : Refusal → Type 0) (o q : Option Refusal) → Of P o → Of P q → Of P (or_else o q)
of_or P None q one other = other
of_or P (Some r) q one other = one

clock_told : (clock time : Option ℕ) → Of IsTold (clock_refusal clock time)
clock_told (Some last) (Some given) = of_if IsTold (nat_lt given last) (Some (ClockBack last given)) None
    ((λ is. is), (λ is. cc)) tt
clock_told (Some last) None = tt
clock_told None time = tt

pub append_told : (steps : ℕ) (clock : Option ℕ) (events : List (List ℕ)) (time : Option ℕ)
    → Of IsTold (append_refusal false steps clock events time)
unfolding append_refusal limits_refusal
append_told steps clock events time =
    of_or IsTold (full_refusal steps) _ (of_if IsTold (nat_le LAST_STEP steps) (Some Full) None ((λ is. is), (λ is. cc))
    tt)
    (of_or IsTold (limits_refusal events) _
    (of_if IsTold (nat_lt MOST_EVENTS (length events)) (Some (TooMany (length events)))
    (length_refusal (first_long events) (events_size events)) (is_told_count (length events))
    (lengths_told (first_long events) (events_size events)))
    (clock_told clock time))

of_weaker : (P Q : Refusal → Type 0) → ((r : Refusal) → P r → Q r) → (o : Option Refusal) → Of P o → Of Q o
of_weaker P Q step None all = tt
of_weaker P Q step (Some r) all = step r all

-- ---- the tables after a disk fault

-- no line of a table says that there was one: not the first, of a call after it, and none of the others
no_fault : (table : Bool → Option Refusal) → Of NoFault (table true) → Of IsTold (table false) → (broken : Bool)
    → Of NoFault (table broken)
no_fault table first told true = first
no_fault table first told false = of_weaker IsTold NoFault (λ r is. is.0) (table false) told

pub append_no_fault : (broken : Bool) (steps : ℕ) (clock : Option ℕ) (events : List (List ℕ)) (time : Option ℕ)
    → Of NoFault (append_refusal broken steps clock events time)
unfolding append_refusal
append_no_fault broken steps clock events time = no_fault (λ b. append_refusal b steps clock events time) (λ is. is)
    (append_told steps clock events time) broken

pub order_told : (last step top : ℕ) → Of IsTold (order_refusal false last step top)
unfolding order_refusal
order_told last step top = of_if IsTold (is_in_order last step top) None (Some (NoStep last)) tt
    ((λ is. is), (λ is. cc))

pub order_no_fault : (broken : Bool) (last step top : ℕ) → Of NoFault (order_refusal broken last step top)
unfolding order_refusal
order_no_fault broken last step top = no_fault (λ b. order_refusal b last step top) (λ is. is)
    (order_told last step top) broken

pub thread_told : (last since : ℕ) → Of IsTold (thread_refusal false last since)
unfolding thread_refusal
thread_told last since = of_if IsTold (nat_lt 0 last && nat_le since last) None (Some (NoStep last)) tt
    ((λ is. is), (λ is. cc))

pub thread_no_fault : (broken : Bool) (last since : ℕ) → Of NoFault (thread_refusal broken last since)
unfolding thread_refusal
thread_no_fault broken last since = no_fault (λ b. thread_refusal b last since) (λ is. is) (thread_told last since)
    broken

pub link_told : (last step top : ℕ) → Of IsTold (link_refusal false last step top)
unfolding link_refusal
link_told last step top = of_if IsTold (nat_le step top && (nat_le 1 top && nat_le top last)) None (Some (NoStep last))
    tt ((λ is. is), (λ is. cc))

pub link_no_fault : (broken : Bool) (last step top : ℕ) → Of NoFault (link_refusal broken last step top)
unfolding link_refusal
link_no_fault broken last step top = no_fault (λ b. link_refusal b last step top) (λ is. is) (link_told last step top)
    broken

pub top_told : (last top : ℕ) → Of IsTold (top_refusal false last top)
unfolding top_refusal
top_told last top = of_if IsTold (nat_le 1 top && nat_le top last) None (Some (NoStep last)) tt ((λ is. is), (λ is. cc))

pub top_no_fault : (broken : Bool) (last top : ℕ) → Of NoFault (top_refusal broken last top)
unfolding top_refusal
top_no_fault broken last top = no_fault (λ b. top_refusal b last top) (λ is. is) (top_told last top) broken

-- ---- a bad page and a disk fault are faults

pub is_bad_fault : (r : Refusal) → IsBadPageRefusal r → IsFault r
is_bad_fault (BadPage page) is = tt
is_bad_fault _ is = absurd is

-- ---- proving an event

pub no_event_told : (r : Refusal) → IsNoEvent r → IsTold r
no_event_told (NoEvent count) is = ((λ fault. fault), (λ same. cc))
no_event_told _ is = absurd is

pub has_event : (count index : ℕ) → index < count → event_refusal count index ≡ None
unfolding event_refusal
has_event count index below = ap (λ (b : Bool). if b then None else Some (NoEvent count)) (lt-ltb index count below)

pub event_told : (count index : ℕ) → Of IsNoEvent (event_refusal count index)
unfolding event_refusal
event_told count index = of_if IsNoEvent (nat_lt index count) None (Some (NoEvent count)) tt tt
