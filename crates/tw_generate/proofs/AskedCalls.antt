-- What calls on services that play histories answer, where they are not refused.
use Rattle.std.proofs.Common.{◌≡◌, ◌⊎◌, List, ℕ, Bool, true, false, refl, sym, ◌∙◌, subst, inl, inr}
use Rattle.std.specs.Prelude.{◌↔◌, None, Result, Ok, Err, IfOk, IsTrue}
use Rattle.tw_base.specs.declared.history.refusal.Refusal.{Refusal}
use Rattle.tw_base.specs.declared.history.refusal.Refusal.TheVariants.{DiskFault, NoMemory}
use Rattle.tw_base.specs.declared.history.question.Question.{Question}
use Rattle.tw_base.specs.declared.history.thread.Thread.{Thread}
use Rattle.tw_base.specs.format.Formats.{Spells}
use Rattle.tw_base.specs.history.History.{History}
use Rattle.tw_disk.specs.Disk.{DiskView}
use Rattle.tw_msg.specs.Messages.{message_layout}
use Rattle.tw_msg.specs.declared.message.Message.{Message}
use Rattle.tw_msg.specs.declared.receipt.Receipt.{Receipt}
use Rattle.tw_service.specs.Adding.{AppendsEvents, CallSteps, ReceivesBytes}
use Rattle.tw_service.specs.Asking.{AsksFor}
use Rattle.tw_service.specs.EventStep.{with_events_at}
use Rattle.tw_service.specs.Machine.{AnswersByMachine, Call, IsStepOf, NextOf, Reply}
use Rattle.tw_service.specs.Machine.Call.{Append, Ask, Receive}
use Rattle.tw_service.specs.Machine.Reply.{OfBytes, OfReceipt, OfThread}
use Rattle.tw_service.specs.Serves.{Serves, has_failed}
use Rattle.tw_service.specs.declared.service.Service.{Service}
use Rattle.tw_generate.specs.Playing.{PlaysHistory}
use Rattle.tw_generate.specs.Summing.{IsQuestionAnswered}

-- after an answer no disk fault is remembered, where none was before
pub whole-after : {T : Type 0} (after before : Bool) (result : Result T Refusal) (value : T)
    → IsTrue after ↔ (IsTrue before ⊎ (result ≡ Err DiskFault)) → before ≡ false → result ≡ Ok value → after ≡ false
whole-after false before result value broken whole is = refl
whole-after true before result value broken whole is = elim (broken.0 refl) [
  | inl was ↦ cc
  | inr fault ↦ absurd (let clash : ◌≡◌ {A = Result _ Refusal} (Ok value) (Err DiskFault) = sym is ∙ fault in cc)
]

module _ {D H : Type 0} {g : _} {k : _} (dig : List ℕ → List ℕ) (view : D → DiskView) (old new : Service D H g k)
    (h : History) (plays : PlaysHistory dig view old h) where
  -- a question changes nothing, and its answer is the machine's
  pub asked : (q : Question) (result : Result (List ℕ) Refusal) (bytes : List ℕ) → AsksFor dig view q old new result
      → result ≡ Ok bytes → PlaysHistory dig view new h × IsQuestionAnswered dig h q bytes
  asked q result bytes a is =
      let answer : (next : History) × IsStepOf dig h (Ask q) (OfBytes bytes) next × Serves dig view new next =
      subst (λ r. AnswersByMachine dig h (Ask q) (λ (b : List ℕ). OfBytes b) r (Serves dig view new)) is
      (a.asks.machine plays.1 h plays.0) in (
        (
          (a.asks.same h plays.0).0,
          whole-after (has_failed new) (has_failed old) result bytes a.asks.broken plays.1 is,
        ),
        subst (IsStepOf dig h (Ask q) (OfBytes bytes)) answer.1.0 answer.1,
      )

  -- a call that may add a step
  stepped : {T : Type 0} (call : Call) (reply : T → Reply) (result : Result T Refusal) (value : T)
      → CallSteps dig view call reply old new result h → result ≡ Ok value
      → IsTrue (has_failed new) ↔ (IsTrue (has_failed old) ⊎ (result ≡ Err DiskFault))
      → (next : History) × PlaysHistory dig view new next × NextOf dig call h next × IsStepOf dig h call (reply value)
      next
  stepped call reply result value steps is broken =
      let done : IsStepOf dig h call (reply value) steps.next × Serves dig view new steps.next =
      subst (λ r. IfOk r (λ x. IsStepOf dig h call (reply x) steps.next × Serves dig view new steps.next)) is
      steps.done in (
        steps.next,
        (done.1, whole-after (has_failed new) (has_failed old) result value broken plays.1 is),
        steps.is_next,
        done.0,
      )

  -- bytes of a message are received
  pub received-by : (bytes : List ℕ) (m : Message) (result : Result Receipt Refusal) (receipt : Receipt)
      → ReceivesBytes dig view bytes None old new result
      → Spells message_layout bytes m → result ≡ Ok receipt
      → (next : History) × PlaysHistory dig view new next × NextOf dig (Receive m None) h next × IsStepOf dig h
      (Receive m None) (OfReceipt receipt) next
  received-by bytes m result receipt receives spelled is = elim (receives.message m spelled) [
    | inl none ↦ absurd (let clash : ◌≡◌ {A = Result Receipt Refusal} (Ok receipt) (Err NoMemory) = sym is ∙ none.1 in
        cc)
    | inr takes ↦ stepped (Receive m None) (λ (r : Receipt). OfReceipt r) result receipt (takes.steps h plays.0) is
        takes.broken
  ]

  -- events that are appended are the history's next step
  pub appended-by : (events : List (List ℕ)) (result : Result Thread Refusal) (thread : Thread) → AppendsEvents dig view
      events None old new result → result ≡ Ok thread
      → PlaysHistory dig view new (with_events_at h events None)
  appended-by events result thread appends is =
      let next = stepped (Append events None) (λ (t : Thread). OfThread t) result thread (appends.steps h plays.0) is
      appends.broken in
      subst (λ (g : History). PlaysHistory dig view new g) next.2 next.1
