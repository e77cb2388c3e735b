-- What a service's machine makes of a history when it is given events, or the bytes of a message: the same history, or
-- one with one more step.
use Rattle.std.proofs.Common.{◌≡◌, ◌⊎◌, ℕ, ◌<◌, ◌≤◌, List, length, Bool, true, false, refl, ap, sym, subst, inl, inr}
use Rattle.std.proofs.Common.{arith}
use Rattle.std.specs.Prelude.{Option, Some, None, MatchOption, nat_le, nat_lt, if◌then◌else◌}
use Rattle.std.proofs.lemmas.Bool.{leb-false, ltb-false}
use Rattle.tw_base.specs.declared.history.content.Content.{Content}
use Rattle.tw_base.specs.declared.history.content.Content.TheVariants.{Received}
use Rattle.tw_base.specs.declared.history.thread.Thread.{Thread}
use Rattle.tw_base.specs.declared.kinds.limits.TheConstants.{LAST_STEP, MOST_EVENTS, MOST_STEP_BYTES}
use Rattle.tw_base.specs.format.Formats.{Spells}
use Rattle.tw_base.specs.history.History.{History, Step, plus, root_of, step_at, thread_of}
use Rattle.tw_base.specs.history.Limits.{IsTimeWithinLimits, MayRecord}
use Rattle.tw_base.specs.history.Sound.{IsSound}
use Rattle.tw_base.specs.kinds.Bytes.{AreBytes}
use Rattle.tw_base.specs.kinds.Lists.{Each}
use Rattle.tw_msg.specs.Messages.{message_layout}
use Rattle.tw_msg.specs.declared.message.Message.{Message}
use Rattle.tw_archive.specs.Judging.{judged_message}
use Rattle.tw_archive.specs.declared.judgement.Judgement.{Judgement}
use Rattle.tw_archive.specs.declared.judgement.Judgement.TheVariants.{Accept}
use Rattle.tw_base.specs.history.Tree.{entries, tree}
use Rattle.tw_service.specs.Receiving.{reception, refuse_or}
use Rattle.tw_service.specs.EventStep.{event_step, with_events_at}
use Rattle.tw_answers.specs.Limits.{append_refusal, archive_refusal, clock_refusal, events_size, first_long}
use Rattle.tw_answers.specs.Limits.{full_refusal, length_refusal, limits_refusal, or_else, own_refusal}
use Rattle.tw_service.specs.Machine.{Archives, IsStepOf, Reply, RepliesTo, append_table, last_thread}
use Rattle.tw_service.specs.Machine.Reply.{OfThread, Refused}
use Rattle.tw_service.specs.Machine.Call.{Append as AppendEvents}
use Rattle.tw_service.specs.Stands.{greatest_time}
use Rattle.tw_base.specs.declared.history.refusal.Refusal.{Refusal}
use Rattle.tw_base.specs.declared.history.refusal.Refusal.TheVariants.{Full, TooLong, TooMany}
use Rattle.tw_answers.proofs.EventLimits.{none_long}
use Rattle.tw_service.proofs.NextHistories.{sound_plus}
use Rattle.tw_world.specs.Runs.{TakesBytes}

-- ---- a table that refuses nothing

or-none : (one other : Option Refusal) → or_else one other ≡ None → (one ≡ None) × (other ≡ None)
or-none None other none = (refl, none)
or-none (Some r) other none = cc

not-full : (steps : ℕ) → full_refusal steps ≡ None → steps < LAST_STEP
not-full steps none = by (nat_le LAST_STEP steps) refl none
  where
    by : (b : Bool) → nat_le LAST_STEP steps ≡ b → (if b then Some Full else None) ≡ None → steps < LAST_STEP
    by true is none = cc
    by false is none = omega (arith, leb-false LAST_STEP steps is)

short : (long : Option (List ℕ)) (bytes : ℕ) → length_refusal long bytes ≡ None → (long ≡ None)
    × (bytes ≤ MOST_STEP_BYTES)
short (Some event) bytes none = cc
short None bytes none = (refl, by (nat_lt MOST_STEP_BYTES bytes) refl none)
  where
    by : (b : Bool) → nat_lt MOST_STEP_BYTES bytes ≡ b → (if b then Some (TooLong bytes) else None) ≡ None
        → bytes ≤ MOST_STEP_BYTES
    by true is none = cc
    by false is none = omega (arith, ltb-false MOST_STEP_BYTES bytes is)

within-limits : (events : List (List ℕ)) → Each AreBytes events → limits_refusal events ≡ None → MayRecord events
unfolding limits_refusal
within-limits events are none = by (nat_lt MOST_EVENTS (length events)) refl none
  where
    by : (b : Bool) → nat_lt MOST_EVENTS (length events) ≡ b → (if b then Some (TooMany (length events))
        else length_refusal (first_long events) (events_size events)) ≡ None → MayRecord events
    by true is none = cc
    by false is none =
        let both = short (first_long events) (events_size events) none in
        record {
          are = record {
            count = omega (arith, ltb-false MOST_EVENTS (length events) is);
            sizes = none_long events both.0;
            bytes = are;
          };
          fit = both.1;
        }

allowed : (steps : ℕ) (clock : Option ℕ) (events : List (List ℕ)) (time : Option ℕ) → Each AreBytes events
    → append_refusal false steps clock events time ≡ None
    → MayRecord events × (steps < LAST_STEP) × (clock_refusal clock time ≡ None)
unfolding append_refusal
allowed steps clock events time are none =
    let full = or-none (full_refusal steps) _ none in
    let limits = or-none (limits_refusal events) _ full.1 in
    (within-limits events are limits.0, not-full steps full.0, limits.1)

module _ (dig : List ℕ → List ℕ) where
  -- events: the same history, or a step of them
  pub append-goes : (h next : History) (events : List (List ℕ)) (time : Option ℕ) (reply : Reply) → IsSound h
      → Each AreBytes events → IsTimeWithinLimits time → IsStepOf dig h (AppendEvents events time) reply next
      → (next ≡ h) ⊎ ((s : Step) × (next ≡ plus h s) × IsSound next × (thread_of (Some s) ≡ None))
  append-goes h next events time reply sound are within step = by (append_table h events time) refl step
    where
      by : (o : Option Refusal) → append_table h events time ≡ o
          → MatchOption o ((next ≡ with_events_at h events time) × (reply ≡ OfThread (last_thread dig next)))
          (λ refusal. (next ≡ h) × (reply ≡ Refused refusal))
          → (next ≡ h) ⊎ ((s : Step) × (next ≡ plus h s) × IsSound next × (thread_of (Some s) ≡ None))
      by (Some refusal) is step = inl step.0
      by None is step =
          let may = allowed (length h.steps) (greatest_time h) events time are is in
          inr (
            event_step (root_of (step_at h (length h.steps))) events time,
            step.0,
            subst IsSound (sym step.0) (sound_plus h events time sound may.0 within may.2 may.1),
            refl,
          )

  received-thread : (s : Step) (t : Thread) → s.content ≡ Received t → thread_of (Some s) ≡ Some t
  received-thread s t is =
      ap (λ (c : Content). thread_of (Some (record { content = c; time = s.time; fresh = s.fresh; root = s.root }))) is

  -- what a message makes of a history: the same one, or one with a step that received its thread
  abbrev pub ReceivesOne : (h next : History) → Message → Type 0
  ReceivesOne h next m = (next ≡ h) ⊎ ((s : Step) × (next ≡ plus h s) × IsSound next
      × (thread_of (Some s) ≡ Some m.thread))

  -- an accepted message, for which there is a further step, or none; what it becomes is that of the first message of
  -- all
  accepted-goes : (h next : History) (m : Message) (time : Option ℕ) (reply : Reply) (refusal : Option Refusal)
      → RepliesTo dig h m time reply next (refuse_or refusal (reception 0 None None Accept)) → ReceivesOne h next m
  unfolding reception archive_refusal
  accepted-goes h next m time reply (Some refusal) is = inl is.0
  accepted-goes h next m time reply None is = let made : Archives m.thread time h next = is.0 in
      inr (made.0, made.1, is.1, received-thread made.0 m.thread made.2)

  judged-goes : (h next : History) (m : Message) (time : Option ℕ) (reply : Reply) (own : Option Refusal)
      (judgement : Judgement)
      → RepliesTo dig h m time reply next (refuse_or own (reception (length h.steps) (greatest_time h) time judgement))
      → ReceivesOne h next m
  unfolding reception archive_refusal
  judged-goes h next m time reply (Some refusal) judgement is = inl is.0
  judged-goes h next m time reply None Accept is = accepted-goes h next m time reply
      (archive_refusal (length h.steps) (greatest_time h) time) is
  judged-goes h next m time reply None _ is = inl is.0

  -- the bytes of a message: the same history, or a step that received its thread
  pub given-goes : (h next : History) (bytes : List ℕ) (time : Option ℕ) (reply : Reply) → TakesBytes dig h bytes time
      reply next
      → (next ≡ h) ⊎ ((m : Message) × Spells message_layout bytes m × ((s : Step) × (next ≡ plus h s) × IsSound next
      × (thread_of (Some s) ≡ Some m.thread)))
  given-goes h next bytes time reply (inr none) = inl none.1
  given-goes h next bytes time reply (inl (m, spells, step)) =
      elim (judged-goes h next m time reply (own_refusal false h.name m.thread.from)
      (judged_message dig (entries (tree h (length h.steps))) m) step) [
        | inl same ↦ inl same
        | inr more ↦ inr (m, spells, more)
      ]
