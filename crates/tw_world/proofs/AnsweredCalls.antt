-- What a call that may add a step was answered, from what the service says of it.
use Rattle.std.proofs.Common.{◌≡◌, ◌⊎◌, ℕ, suc, List, length, refl, ap, sym, ◌∙◌, subst, inl, inr, Bool, false}
use Rattle.std.specs.Prelude.{IfErr, IfOk, OnOk, Ok, Option, Some, None, Result, Err, MatchOption}
use Rattle.std.proofs.lemmas.Bool.{cases_lt}
use Rattle.sha2.specs.Sha256.{sha256}
use Rattle.tw_base.specs.declared.history.thread.Thread.{Thread}
use Rattle.tw_base.specs.format.Formats.{IsPlace, Placed, Spells, SpellsNothing, read_at}
use Rattle.tw_base.specs.history.History.{History}
use Rattle.tw_base.proofs.lemmas.format.FormatLaws.{whole-longer, whole-stops, whole-word}
use Rattle.tw_answers.specs.Limits.{append_refusal}
use Rattle.tw_answers.specs.Refusals.{IsFault}
use Rattle.tw_base.specs.declared.history.refusal.Refusal.{Refusal}
use Rattle.tw_base.specs.declared.history.refusal.Refusal.TheVariants.{BadPage, DiskFault, Malformed, NoMemory, Reopen}
use Rattle.tw_answers.proofs.TableAnswers.{NoFault, Of, append_no_fault}
use Rattle.tw_disk.specs.Image.{Image}
use Rattle.tw_disk.specs.MemDisk.{mem_disk_view}
use Rattle.tw_disk.specs.declared.memory_disk.MemDisk.{MemDisk}
use Rattle.tw_msg.specs.Messages.{message_layout}
use Rattle.tw_msg.specs.declared.message.Message.{Message}
use Rattle.tw_msg.specs.declared.receipt.Receipt.{Receipt}
use Rattle.tw_msg.proofs.MessageCodec.{message-lawful}
use Rattle.tw_service.specs.Adding.{AppendsEvents, Receives, ReceivesBytes}
use Rattle.tw_service.specs.EventStep.{with_events_at}
use Rattle.tw_service.specs.Machine.{AnswersByMachine, Call, IsStepOf, NextOf, RepliesTo, Reply, append_table}
use Rattle.tw_service.specs.Machine.{last_thread, receipt_by}
use Rattle.tw_service.specs.Machine.Call.{Append, Receive}
use Rattle.tw_service.specs.Machine.Reply.{OfReceipt, OfThread, Refused}
use Rattle.tw_service.specs.Receiving.{RefusesNoMessage}
use Rattle.tw_service.specs.Serves.{Serves, clock_of, has_failed, name_of, steps_of}
use Rattle.tw_service.specs.Stands.{IsImageOfHistory, StandsFor, StandsForOneOf}
use Rattle.tw_service.specs.declared.service.Service.{Service}
use Rattle.tw_service.proofs.Answering.{append_done, fails, is_disk_fault}
use Rattle.tw_world.specs.Hosts.{Answered, AnswersRefusal, Given, IsNextOf, TakesGiven}
use Rattle.tw_world.specs.Hosts.Given.{OfBytes, OfEvents}
use Rattle.tw_world.specs.declared.told.Answer.{Answer}
use Rattle.tw_world.specs.declared.told.Answer.TheVariants as answer

-- an image stands for a history by the history's own name
pub stands-own : (image : Image) (name : List ℕ) (h : History) → StandsFor sha256 image name h → IsImageOfHistory sha256 h image
stands-own image name h s = subst (λ n. StandsFor sha256 image n h) (sym s.named) s

pub stands-one : (image : Image) (name : List ℕ) (h next : History) → StandsForOneOf sha256 name h next image
    → IsImageOfHistory sha256 h image ⊎ IsImageOfHistory sha256 next image
stands-one image name h next (inl s) = inl (stands-own image name h s)
stands-one image name h next (inr s) = inr (stands-own image name next s)

same-refusal : (T : Type 0) (one other : Refusal) → fails T one ≡ fails T other → one ≡ other
same-refusal T one other e = cc

pub if-ok : {A E : Type 0} (r : Result A E) (P Q : A → Type 0) → ((a : A) → P a → Q a) → IfOk r P → IfOk r Q
if-ok (Ok a) P Q to is = to a is
if-ok (Err e) P Q to is = is

pub on-ok : {A E : Type 0} (r : Result A E) (P Q : Type 0) → (P → Q) → OnOk r P → OnOk r Q
on-ok (Ok a) P Q to is = to is
on-ok (Err e) P Q to is = is

module _ {H : Type 0} {g : _} {k : _} (given : Given) (h : History) (new : Service MemDisk H g k) where
  -- a refusal, which the machine answers; or a disk fault
  from-refusal : {T : Type 0} (call : Call) (reply : T → Reply) (r : Refusal) (o : Option Answer) → AnswersRefusal r o
      → AnswersByMachine sha256 h call reply (Err r) (Serves sha256 mem_disk_view new)
      → (IsStepOf sha256 h call (Refused r) h → TakesGiven given h (Refused r) h)
      → (r ≡ DiskFault → Answered given h new None) → Answered given h new o
  from-refusal call reply (BadPage page) o after answers takes fault = absurd answers
  from-refusal call reply Reopen o after answers takes fault = absurd answers
  from-refusal call reply NoMemory o after answers takes fault = absurd after
  from-refusal call reply DiskFault o after answers takes fault = subst (Answered given h new) (sym after) (fault refl)
  from-refusal call reply r o after answers takes fault =
      subst (Answered given h new) (sym after)
      (record { next = h; named = refl; reply = Refused r; takes = takes answers.0; is = refl; serves = answers.1 })

-- what was served, and what any call of it leaves
module _ {H : Type 0} {g : _} {k : _} (old new : Service MemDisk H g k) (h : History)
    (served : Serves sha256 mem_disk_view old h) (whole : has_failed old ≡ false) where
  -- ---- appending

  module _ (events : List (List ℕ)) where
    by-table : (o : Option Refusal) → MatchOption o (IfErr (fails Thread DiskFault) IsFault)
        (λ refusal. fails Thread DiskFault ≡ Err refusal) → Of NoFault o → o ≡ None
    by-table None is never = refl
    by-table (Some r) is never = absurd (never (is_disk_fault Thread r (sym is)))

    append-none : MatchOption (append_refusal (has_failed old) (steps_of old) (clock_of old) events None)
        (IfErr (fails Thread DiskFault) IsFault) (λ refusal. fails Thread DiskFault ≡ Err refusal)
        → None ≡ append_table h events None
    append-none table =
        let none = by-table (append_refusal (has_failed old) (steps_of old) (clock_of old) events None) table
        (append_no_fault (has_failed old) (steps_of old) (clock_of old) events None) in
        sym none ∙ (λ j. append_refusal (whole j) (served.keeps.whole.steps.step j) (served.keeps.whole.time j) events
        None)

    append-fault : AppendsEvents sha256 mem_disk_view events None old new (Err DiskFault) → Answered (OfEvents events) h
        new None
    append-fault a =
        let s = a.steps h served in
        let next : History = with_events_at h events None in
        let step : IsStepOf sha256 h (Append events None) (OfThread (last_thread sha256 next)) next =
        append_done sha256 h events None (last_thread sha256 next) (append-none a.table) refl in record {
          next = next;
          named = refl;
          is_next = inr (OfThread (last_thread sha256 next), (None, refl, tt, step));
          leaves = λ c may. stands-one c (name_of old) h next
              (subst (λ (x : History). StandsForOneOf sha256 (name_of old) h x c) s.is_next (s.any_moment.now c may));
        }

    pub append-answered : (r : Refusal) (o : Option Answer) → AnswersRefusal r o → AppendsEvents sha256 mem_disk_view
        events None old new (Err r) → Answered (OfEvents events) h new o
    append-answered r o after a =
        from-refusal (OfEvents events) h new (Append events None) OfThread r o after ((a.steps h served).machine whole)
        (λ step. (None, refl, tt, step))
        (λ is. append-fault (subst (λ (x : Refusal). AppendsEvents sha256 mem_disk_view events None old new (Err x)) is
        a))

    pub append-done : (t : Thread) (n : ℕ) → AppendsEvents sha256 mem_disk_view events None old new (Ok t)
        → ((x : History) → Serves sha256 mem_disk_view new x → n ≡ length x.steps)
        → Answered (OfEvents events) h new (Some (answer.Stepped n))
    append-done t n a counts =
        let s = a.steps h served in
        record {
          next = s.next;
          named = ap (λ (x : History). x.name) s.is_next;
          reply = OfThread t;
          takes = (None, refl, tt, s.done.0);
          is = ap answer.Stepped (counts s.next s.done.1);
          serves = s.done.1;
        }

  -- ---- receiving

  module _ (bytes : List ℕ) where
    takes : (m : Message) → Spells message_layout bytes m → (reply : Reply) (next : History)
        → IsStepOf sha256 h (Receive m None) reply next → TakesGiven (OfBytes bytes) h reply next
    takes m spells reply next step = (None, refl, tt, inl (m, spells, step))

    next-of : (m : Message) → Spells message_layout bytes m → (next : History) → NextOf sha256 (Receive m None) h next
        → IsNextOf (OfBytes bytes) h next
    next-of m spells next (inl same) = inl same
    next-of m spells next (inr more) =
        let reply : Reply = OfReceipt (receipt_by sha256 next (suc (length h.steps)) m.thread) in
        inr (
          reply,
          takes m spells reply next (subst (RepliesTo sha256 h m None reply next) (sym more.0) (more.1, more.2, refl)),
        )

    next-named : (m : Message) (next : History) → NextOf sha256 (Receive m None) h next → next.name ≡ h.name
    next-named m next (inl same) = ap (λ (x : History). x.name) same
    next-named m next (inr more) = let made = more.1 in ap (λ (x : History). x.name) made.1

    receive-fault : (m : Message) → Spells message_layout bytes m → Receives sha256 mem_disk_view m None old new
        (Err DiskFault) → Answered (OfBytes bytes) h new None
    receive-fault m spells a =
        let s = a.steps h served in
        record {
          next = s.next;
          named = next-named m s.next s.is_next;
          is_next = next-of m spells s.next s.is_next;
          leaves = λ c may. stands-one c (name_of old) h s.next (s.any_moment.now c may);
        }

    -- a message that was received
    received : (m : Message) → Spells message_layout bytes m → (r : Refusal) (o : Option Answer) → AnswersRefusal r o
        → Receives sha256 mem_disk_view m None old new (Err r)
        → Answered (OfBytes bytes) h new o
    received m spells r o after a =
        from-refusal (OfBytes bytes) h new (Receive m None) OfReceipt r o after ((a.steps h served).machine whole)
        (takes m spells (Refused r) h)
        (λ is. receive-fault m spells (subst (λ (x : Refusal). Receives sha256 mem_disk_view m None old new (Err x)) is
        a))

    no-memory : (r : Refusal) (o : Option Answer) → r ≡ NoMemory → AnswersRefusal r o → Answered (OfBytes bytes) h new o
    no-memory r o is after = absurd (subst (λ (x : Refusal). AnswersRefusal x o) is after)

    -- bytes that are no message
    malformed : SpellsNothing message_layout bytes → (r : Refusal) (o : Option Answer) (place : ℕ) → r ≡ Malformed place
        → IsPlace message_layout bytes place
        → AnswersRefusal r o → new ≡ old → Answered (OfBytes bytes) h new o
    malformed nothing r o place is at after same =
        let told : o ≡ Some (answer.Refused (Malformed place)) = subst (λ (x : Refusal). AnswersRefusal x o) is after in
        subst (Answered (OfBytes bytes) h new) (sym told)
        (record {
          next = h;
          named = refl;
          reply = Refused (Malformed place);
          takes = (None, refl, tt, inr (nothing, refl, (place, at, refl)));
          is = refl;
          serves = subst (λ (s : Service MemDisk H g k). Serves sha256 mem_disk_view s h) (sym same) served;
        })

    -- either some message is spelled, or none
    message-or-none : ((m : Message) × Spells message_layout bytes m) ⊎ SpellsNothing message_layout bytes
    message-or-none = by (read_at message_layout bytes 0) refl
      where
        by : (read : Result (Placed Message) ℕ) → read_at message_layout bytes 0 ≡ read
            → ((m : Message) × Spells message_layout bytes m) ⊎ SpellsNothing message_layout bytes
        by (Ok p) is =
            elim (cases_lt p.after (length bytes)) [
              | inl less ↦ inr (whole-longer message_layout bytes p.after p.value is less).0
              | inr more ↦ inl (p.value, whole-word message_layout bytes p.after p.value is more)
            ]
        by (Err place) is = inr (whole-stops message_layout message-lawful.goes bytes place is).0

    pub receive-answered : (r : Refusal) (o : Option Answer) → AnswersRefusal r o → ReceivesBytes sha256 mem_disk_view
        bytes None old new (Err r) → Answered (OfBytes bytes) h new o
    receive-answered r o after a =
        elim message-or-none [
          | inl m ↦ elim (a.message m.0 m.1) [
            | inl none ↦ no-memory r o (same-refusal Receipt r NoMemory none.1) after
            | inr taken ↦ received m.0 m.1 r o after taken
          ]
          | inr nothing ↦ elim (subst (λ (b : Bool). RefusesNoMessage b bytes (fails Receipt r)) whole
              (a.malformed nothing).0) [
                | inl none ↦ no-memory r o (same-refusal Receipt r NoMemory none) after
                | inr told ↦ malformed nothing r o told.0 (same-refusal Receipt r (Malformed told.0) told.1) told.2
                    after
                    (a.malformed nothing).1
              ]
        ]

    pub receive-done : (receipt : Receipt) → ReceivesBytes sha256 mem_disk_view bytes None old new (Ok receipt)
        → Answered (OfBytes bytes) h new (Some (answer.Archived receipt.by.step))
    receive-done receipt a =
        elim message-or-none [
          | inl m ↦ elim (a.message m.0 m.1) [
            | inl none ↦ cc
            | inr taken ↦ (let s = taken.steps h served in record {
              next = s.next;
              named = next-named m.0 s.next s.is_next;
              reply = OfReceipt receipt;
              takes = takes m.0 m.1 (OfReceipt receipt) s.next s.done.0;
              is = refl;
              serves = s.done.1;
            })
          ]
          | inr nothing ↦ elim (subst (λ (b : Bool). RefusesNoMessage b bytes (Ok receipt)) whole
              (a.malformed nothing).0) [
                | inl none ↦ cc
                | inr told ↦ (let no = told.1 in cc)
              ]
        ]
