-- From what a service answers to a question to what the command comes to.
use Rattle.std.proofs.Common.{◌≡◌, ◌∙◌, ◌⊎◌, ℕ, List, Bool, false, refl, ap, sym, subst}
use Rattle.std.specs.Prelude.{IfOk, Option, Some, Result, Ok, Err}
use Rattle.sha2.specs.Sha256.{sha256}
use Rattle.tw_base.specs.history.History.{History}
use Rattle.tw_base.specs.kinds.Faults.{Rose}
use Rattle.tw_disk.specs.Image.{Image}
use Rattle.tw_base.specs.declared.history.refusal.Refusal.{Refusal}
use Rattle.tw_base.specs.declared.history.refusal.Refusal.TheVariants as service
use Rattle.tw_answers.specs.declared.root.RootRecord.{RootRecord}
use Rattle.tw_answers.specs.Finds.{IsFoundAnswer, IsRefusalFound}
use Rattle.tw_answers.specs.Refusals.{IsFault, IsNoEvent}
use Rattle.tw_answers.proofs.TableAnswers.{Of}
use Rattle.tw_base.specs.declared.history.question.Question.{Question}
use Rattle.tw_base.specs.declared.history.question.Question.TheVariants as ask
use Rattle.tw_msg.proofs.OwnMessages.{leads-own}
use Rattle.tw_service.specs.Answered.{IsAcceptedFor}
use Rattle.tw_service.specs.Machine.{AnswersByMachine, Makes}
use Rattle.tw_service.specs.Machine.Call.{Ask}
use Rattle.tw_service.specs.Machine.Reply.{OfBytes}
use Rattle.tw_service.specs.Questions.{Besides, found_answer, question_refusal}
use Rattle.tw_service.specs.Tops.{top_or_last}
use Rattle.tw_text.specs.declared.fault.CommandFault.{CommandFault}
use Rattle.tw_diskcmd.specs.Answers.{IsOpened}
use Rattle.tw_diskcmd.specs.Asking.{AnswersBy, AskComes, LeadsOn, asked_bytes, asked_call, asked_table, came_of}
use Rattle.tw_diskcmd.specs.Disks.{FoundDisk, ReadsAsHistory}
use Rattle.tw_diskcmd.specs.Faults.{fault_of_service}
use Rattle.tw_diskcmd.proofs.AskedCalls.{further_done, further_refused}
use Rattle.tw_diskcmd.proofs.Results.{CanCome, IsByTable, allowed}
use Rattle.tw_diskcmd.proofs.Tables.{has_thread_can, link_can, no_thread_can, order_can, thread_can, too_long_can}
use Rattle.tw_diskcmd.proofs.Tables.{top_can}

question_can : (last : ℕ) (q : Question) → Of CanCome (question_refusal false last q)
unfolding question_refusal
question_can last (ask.Event step index top) = order_can last step (top_or_last top last)
question_can last (ask.Thread step key top) = order_can last step (top_or_last top last)
question_can last (ask.Absent step key top) = order_can last step (top_or_last top last)
question_can last (ask.Link step top) = link_can last step (top_or_last top last)
question_can last (ask.Low step peer top) = order_can last step (top_or_last top last)
question_can last (ask.High step peer top) = top_can last (top_or_last top last)
question_can last (ask.ThreadOut since) = thread_can last since
question_can last ask.Export = tt

no_event_can : (r : Refusal) → IsNoEvent r → CanCome r
no_event_can (service.NoEvent count) is never = never
no_event_can _ is never = is

besides_can : (q : Question) (r : Refusal) → Besides q r → CanCome r
besides_can (ask.Event step index top) r is = no_event_can r is
besides_can (ask.Thread step key top) r is = no_thread_can r is
besides_can (ask.Absent step key top) r is = has_thread_can r is
besides_can ask.Export r is = too_long_can r is
besides_can _ r is = absurd is

leads_by : (q : Question) (bytes : List ℕ) (h : History) → Makes sha256 h q bytes → LeadsOn q bytes h
unfolding Makes
leads_by (ask.ThreadOut since) bytes h makes = (makes.0, makes.1, leads-own sha256 h since makes.0 makes.2)
leads_by _ bytes h makes = tt

module _ (t : FoundDisk) (q : Question) (is_broken : Bool) (root : RootRecord) (pages : Option Image)
    (opens : IsOpened t.found root pages) (whole : is_broken ≡ false)
    (OldServes NewServes : History → Type 0) (serves : (h : History) → ReadsAsHistory t.found h → OldServes h) where
  abbrev Else : Refusal → Type 0
  Else why = IsFault why ⊎ Besides q why

  table_is : question_refusal is_broken root.head.step q ≡ asked_table q root.head.step
  table_is = ap (λ (b : Bool). question_refusal b root.head.step q) whole

  found_is : (ps : Image) → found_answer sha256 ps root.name root.head is_broken q ≡ asked_bytes q root ps
  found_is ps = ap (λ (b : Bool). found_answer sha256 ps root.name root.head b q) whole

  pub asked_came : (answer : Result (List ℕ) Refusal) (outcome : Result (List ℕ) CommandFault)
      → outcome ≡ came_of answer → IsByTable Else (question_refusal is_broken root.head.step q) answer
      → IfOk answer (λ bytes. (h : History) → OldServes h → Makes sha256 h q bytes)
      → IfOk answer (λ bytes. (h : History) → OldServes h → IsAcceptedFor sha256 h q bytes)
      → (is_broken ≡ false → (h : History) → OldServes h → AnswersByMachine sha256 h (Ask q) (λ b. OfBytes b) answer
      NewServes)
      → (answer ≡ Err service.DiskFault → Rose t.before t.after)
      → ((ps : Image) → pages ≡ Some ps → IsFoundAnswer answer (found_answer sha256 ps root.name root.head is_broken q))
      → AskComes t q outcome
  unfolding AskComes
  asked_came (Ok bytes) outcome same table made accepted machine rose found =
      subst (AskComes t q) (sym same)
      (further_done (asked_bytes q) (asked_table q) (asked_call q) (AnswersBy q) t root pages opens (Besides q)
      (besides_can q) bytes
      (sym table_is ∙ allowed Else (question_refusal is_broken root.head.step q) bytes table)
      (λ ps is. sym (found_is ps) ∙ found ps is)
      (λ h reads. record {
        makes = made h (serves h reads);
        machine = let move = machine whole h (serves h reads) in (refl, move.1.1);
        accepted = accepted h (serves h reads);
        leads = leads_by q bytes h (made h (serves h reads));
      }))
  asked_came (Err r) outcome same table made accepted machine rose found =
      subst (AskComes t q) (sym same)
      (further_refused (asked_bytes q) (asked_table q) (asked_call q) (AnswersBy q) t root pages opens (Besides q)
      (besides_can q) (List ℕ) (λ b. OfBytes b) NewServes r (fault_of_service r) refl
      (question_can root.head.step q) (subst (λ o. IsByTable {X = List ℕ} Else o (Err r)) table_is table)
      (λ h reads. machine whole h (serves h reads)) (λ is. rose (ap (λ (x : Refusal). Err x) is))
      (λ ps is. subst (IsRefusalFound r) (found_is ps) (found ps is)))
