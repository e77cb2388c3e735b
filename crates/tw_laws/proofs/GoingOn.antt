-- Histories that go on from others keep their threads and their steps.
use Rattle.std.proofs.Common.{◌≡◌, ℕ, suc, zero, ◌+◌, ◌<◌, ◌≤◌, List, [], ◌∷◌, ◌++◌, length, refl, ap, sym, ◌∙◌, subst, arith}
use Rattle.std.proofs.Common.{inl, inr}
use Rattle.std.specs.Prelude.{Ok, Option, Some, None, MatchOption}
use Rattle.std.proofs.lemmas.List.{append-nil, append_assoc, length-append, length_push}
use Rattle.std.proofs.lemmas.Option.{slice_get_within}
use Rattle.tw_base.specs.declared.history.thread.Thread.{Thread}
use Rattle.tw_base.specs.declared.history.refusal.Refusal.{Refusal}
use Rattle.tw_base.specs.history.History.{History, Step, plus, root_of, step_at, thread_of}
use Rattle.tw_base.proofs.lemmas.history.Plus.{step_at-new, step_at-plus}
use Rattle.tw_msg.specs.declared.message.Message.{Message}
use Rattle.tw_msg.specs.declared.receipt.Receipt.{Receipt}
use Rattle.tw_outside.specs.Files.{Files}
use Rattle.tw_service.specs.EventStep.{event_step, with_events_at}
use Rattle.tw_service.specs.Machine.{Call, IsStepOf, NextOf, Reply, RepliesTo, append_table, last_thread, receipt_by}
use Rattle.tw_service.specs.Machine.{received_as}
use Rattle.tw_service.specs.Machine.Call.{Append, Ask, Receive, CountSteps, TellHead, TellName}
use Rattle.tw_service.specs.Machine.Reply.{OfReceipt, OfThread, Refused}
use Rattle.tw_service.specs.declared.receiving.Reception.{Reception}
use Rattle.tw_service.specs.declared.receiving.Reception.TheVariants.{Refuse, Known, Archive}
use Rattle.tw_service.proofs.ReceivingLaws.{own-receipt}
use Rattle.tw_words.specs.declared.command.Command.{Command}
use Rattle.tw_words.specs.declared.command.Command.TheVariants as command
use Rattle.tw_app.specs.declared.outcome.Outcome.{Outcome}
use Rattle.tw_app.specs.declared.outcome.Outcome.TheVariants.{Made, Received}
use Rattle.tw_laws.specs.Acknowledged.{Extends, HasAnswered, HasAppended, HasArchived, HasEvents, HasOfEvent, HasOfRun}
use Rattle.tw_laws.specs.Acknowledged.{HasReceived, HasAcknowledged, IsLineReplied}
use Rattle.tw_laws.specs.Published.{IsThreadOf}
use Rattle.tw_laws.specs.Runs.{ServiceAct}
use Rattle.tw_laws.specs.Runs.ServiceAct.{Answered}
use Rattle.tw_pages.specs.Runs.{Event, Happening}
use Rattle.tw_pages.specs.Runs.Event.{Acts}
use Rattle.tw_laws.proofs.Threads.{own_plus}

-- ---- histories that go on

pub same_on : (h : History) → Extends h h
same_on h = record { name = refl; more = []; steps = sym (append-nil h.steps) }

pub then_on : (a b c : History) → Extends a b → Extends b c → Extends a c
then_on a b c first second = record {
  name = second.name ∙ first.name;
  more = first.more ++ second.more;
  steps = second.steps ∙ ap (λ (ss : List Step). ss ++ second.more) first.steps
      ∙ append_assoc a.steps first.more second.more;
}

plus_on : (h : History) (s : Step) → Extends h (plus h s)
plus_on h s = record { name = refl; more = s ∷ []; steps = refl }

pub longer_on : (h later : History) → Extends h later → length h.steps ≤ length later.steps
longer_on h later on =
    let long : length later.steps ≡ length (h.steps ++ on.more) = ap (λ (ss : List Step). length ss) on.steps in
    omega (arith, long, length-append h.steps on.more)

same_history : (h later : History) → later.name ≡ h.name → later.steps ≡ h.steps → later ≡ h
same_history h later named same = λ j. record { name = named j; steps = same j }

-- ---- what it keeps

within : (h : History) (step : ℕ) (s : Step) → step_at h step ≡ Some s → step ≤ length h.steps
within h zero s is = omega arith
within h (suc i) s is = omega (arith, slice_get_within h.steps i s is)

steps_stay : (more : List Step) (h later : History) (step : ℕ) (s : Step) → later.name ≡ h.name
    → later.steps ≡ h.steps ++ more → step_at h step ≡ Some s → step_at later step ≡ Some s
steps_stay [] h later step s named is there =
    ap (λ (n : History). step_at n step) (same_history h later named (is ∙ append-nil h.steps)) ∙ there
steps_stay (x ∷ more) h later step s named is there =
    steps_stay more (plus h x) later step s named (is ∙ sym (append_assoc h.steps (x ∷ []) more))
    (step_at-plus h x step (within h step s there) ∙ there)

step_on : (h later : History) → Extends h later → (step : ℕ) (s : Step) → step_at h step ≡ Some s
    → step_at later step ≡ Some s
step_on h later on step s there = steps_stay on.more h later step s on.name on.steps there

received_on : (h later : History) → Extends h later → (step : ℕ) (t : Thread) → HasReceived h step t
    → HasReceived later step t
received_on h later on step t has = by (step_at h step) refl has
  where
    by : (o : Option Step) → step_at h step ≡ o → thread_of o ≡ Some t → HasReceived later step t
    by None is none = absurd cc
    by (Some s) is own = ap (λ (o : Option Step). thread_of o) (step_on h later on step s is) ∙ own

appended_on : (told : Option Files) (file : List ℕ) (time : Option ℕ) (outcome : Outcome) (h later : History)
    → Extends h later → HasAppended told file time outcome h → HasAppended told file time outcome later
appended_on told file time (Made line) h later on (events, are, has) =
    (events, are, (has.0, step_on h later on line.step has.0 has.1, has.2, has.3))
appended_on told file time outcome h later on has = has

archived_on : (told : Option Files) (file : List ℕ) (outcome : Outcome) (h later : History) → Extends h later
    → HasArchived told file outcome h → HasArchived told file outcome later
archived_on told file (Received receipt) h later on (m, is, has) =
    (m, is, received_on h later on receipt.by.step m.thread has)
archived_on told file outcome h later on has = has

answered_on : (told : Option Files) (c : Command) (outcome : Outcome) (h later : History) → Extends h later
    → HasAnswered told c outcome h → HasAnswered told c outcome later
answered_on told (command.Append file time) outcome h later on has = appended_on told file time outcome h later on has
answered_on told (command.Receive file time) outcome h later on has = archived_on told file outcome h later on has
answered_on told c outcome h later on has = has

-- of words that may have a form
pub words_on : (told : Option Files) (outcome : Outcome) (h later : History) → Extends h later
    → (asked : Option Command) → MatchOption asked (Unit {0}) (λ c. HasAnswered told c outcome h)
    → MatchOption asked (Unit {0}) (λ c. HasAnswered told c outcome later)
words_on told outcome h later on None has = tt
words_on told outcome h later on (Some c) has = answered_on told c outcome h later on has

-- of what services replied
replied_on : (call : Call) (reply : Reply) (h later : History) → Extends h later → HasAcknowledged call reply h
    → HasAcknowledged call reply later
replied_on (Append events time) (OfThread line) h later on has =
    (has.0, step_on h later on line.step has.0 has.1, has.2, has.3)
replied_on (Receive m time) (OfReceipt receipt) h later on has = received_on h later on receipt.by.step m.thread has
replied_on call reply h later on has = has

pub event_on : (event : Event ServiceAct) (h later : History) → Extends h later → HasOfEvent event h
    → HasOfEvent event later
event_on (Acts (Answered call (Ok reply))) h later on has = replied_on call reply h later on has
event_on event h later on has = has

pub run_on : {D S : Type 0} (run : List (Happening D S ServiceAct)) (h later : History) → Extends h later
    → HasOfRun run h → HasOfRun run later
run_on [] h later on has = has
run_on (x ∷ run) h later on has = (event_on x.event h later on has.0, run_on run h later on has.1)

module _ (dig : List ℕ → List ℕ) where
  own_on : (more : List Step) (h later : History) (t : Thread) → later.name ≡ h.name → later.steps ≡ h.steps ++ more
      → IsThreadOf dig h t → IsThreadOf dig later t
  own_on [] h later t named is own = subst (λ (n : History). IsThreadOf dig n t)
      (sym (same_history h later named (is ∙ append-nil h.steps))) own
  own_on (x ∷ more) h later t named is own =
      own_on more (plus h x) later t named (is ∙ sym (append_assoc h.steps (x ∷ []) more)) (own_plus dig h x t own)

  pub thread_on : (h later : History) → Extends h later → (t : Thread) → IsThreadOf dig h t → IsThreadOf dig later t
  thread_on h later on t own = own_on on.more h later t on.name on.steps own

  -- ---- the next history goes on

  abbrev On : History → History → Type 0
  On h next = Extends h next

  same_next : (h next : History) → next ≡ h → Extends h next
  same_next h next is = subst (λ (n : History). On h n) (sym is) (same_on h)

  plus_next : (h next : History) (s : Step) → next ≡ plus h s → Extends h next
  plus_next h next s is = subst (λ (n : History). On h n) (sym is) (plus_on h s)

  pub next_on : (call : Call) (h next : History) → NextOf dig call h next → Extends h next
  next_on (Append events time) h next is = plus_next h next _ is
  next_on (Receive m time) h next (inl is) = same_next h next is
  next_on (Receive m time) h next (inr is) = plus_next h next is.1.0 is.1.1
  next_on (Ask q) h next is = same_next h next is
  next_on CountSteps h next is = same_next h next is
  next_on TellHead h next is = same_next h next is
  next_on TellName h next is = same_next h next is

  -- ---- what it has of the call

  -- the step of the line has the events, and comes behind those before
  pub events_stand : (h next : History) (events : List (List ℕ)) (time : Option ℕ) (t : Thread)
      → next ≡ with_events_at h events time → t ≡ last_thread dig next
      → HasEvents next t.step events time × ((length h.steps < t.step) × (t.step ≤ length next.steps))
  events_stand h next events time t is last =
      let s = event_step (root_of (step_at h (length h.steps))) events time in
      let one : length (h.steps ++ s ∷ []) ≡ length h.steps + 1 = length_push h.steps s in
      let all : length next.steps ≡ length (h.steps ++ s ∷ []) = ap (λ (n : History). length n.steps) is in
      let at : t.step ≡ length next.steps = ap (λ (u : Thread). u.step) last in
      let here : t.step ≡ suc (length h.steps) = omega (arith, one, all, at) in
      let there : step_at next t.step ≡ Some s = ap (λ (n : History). step_at n t.step) is
      ∙ ap (λ (i : ℕ). step_at (plus h s) i) here ∙ step_at-new h s in
      ((s, there, refl, refl), (omega (arith, here), omega (arith, at)))

  receipt_same : (r q : Receipt) → OfReceipt r ≡ OfReceipt q → r ≡ q
  receipt_same r q is = cc

  receipt_refused : (r : Receipt) (refusal : _) → OfReceipt r ≡ Refused refusal → ⊥
  receipt_refused r refusal is = cc

  receipt_thread : (h next : History) (m : Message) (time : Option ℕ) (r : Receipt) (received : Reception)
      → RepliesTo dig h m time (OfReceipt r) next received → r.thread ≡ m.thread
  receipt_thread h next m time r (Refuse refusal) is = absurd (receipt_refused r refusal is.1)
  receipt_thread h next m time r (Known archived) is =
      ap (λ (q : Receipt). q.thread) (receipt_same r (receipt_by dig h archived m.thread) is.1)
  receipt_thread h next m time r Archive is =
      ap (λ (q : Receipt). q.thread) (receipt_same r (receipt_by dig next (suc (length h.steps)) m.thread) is.2)

  -- the step of the receipt received the message's thread
  pub receipt_stands : (h next : History) (m : Message) (time : Option ℕ) (r : Receipt)
      → IsStepOf dig h (Receive m time) (OfReceipt r) next → HasReceived next r.by.step m.thread
  receipt_stands h next m time r is =
      let own = own-receipt dig h m time next r is in
      own.received ∙ ap (λ (t : Thread). Some t)
      (receipt_thread h next m time r (received_as dig h m time) is)

  -- the line is the thread of the last step
  line_last : (h next : History) (events : List (List ℕ)) (time : Option ℕ) (line : Thread)
      → IsStepOf dig h (Append events time) (OfThread line) next → line ≡ last_thread dig next
  line_last h next events time line step = by (append_table h events time) step
    where
      by : (o : Option Refusal) → MatchOption o (NextOf dig (Append events time) h next
          × (OfThread line ≡ OfThread (last_thread dig next))) (λ refusal. (next ≡ h)
          × (OfThread line ≡ Refused refusal)) → line ≡ last_thread dig next
      by None is = let same = is.1 in cc
      by (Some refusal) is = absurd (let no = is.1 in cc)

  -- what a service replied stands in its next history
  pub replied_stands : (call : Call) (reply : Reply) (h next : History) → NextOf dig call h next
      → IsStepOf dig h call reply next → HasAcknowledged call reply next
  replied_stands (Append events time) (OfThread line) h next is step =
      (events_stand h next events time line is (line_last h next events time line step)).0
  replied_stands (Receive m time) (OfReceipt receipt) h next is step = receipt_stands h next m time receipt step
  replied_stands call reply h next is step = tt

  -- and a line is of a step behind those before
  pub line_above : (call : Call) (reply : Reply) (h next : History) → NextOf dig call h next
      → IsStepOf dig h call reply next → (t : Thread) → IsLineReplied call reply t
      → (length h.steps < t.step) × (t.step ≤ length next.steps)
  line_above (Append events time) (OfThread line) h next is step t own =
      let stand = events_stand h next events time line is (line_last h next events time line step) in
      let at : t.step ≡ line.step = ap (λ (u : Thread). u.step) own in
      (omega (arith, at, stand.1.0), omega (arith, at, stand.1.1))
  line_above call reply h next is step t none = absurd none
