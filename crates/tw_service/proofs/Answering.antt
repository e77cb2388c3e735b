-- From the answers of a call to steps of the machine.
use Rattle.std.proofs.Common.{◌≡◌, ◌⊎◌, ℕ, List, refl, ap, sym, subst, inl, inr}
use Rattle.std.specs.Prelude.{Option, Some, None, Result, Err, MatchOption}
use Rattle.tw_base.specs.history.History.{History}
use Rattle.tw_base.specs.declared.history.thread.Thread.{Thread}
use Rattle.tw_answers.specs.Refusals.{IsBadPageRefusal, IsFault}
use Rattle.tw_answers.proofs.TableAnswers.{IsTold}
use Rattle.tw_service.specs.EventStep.{with_events_at}
use Rattle.tw_service.specs.Machine.{AnswersByMachine, Call, IsStepOf, Reply, append_table, last_thread}
use Rattle.tw_service.specs.Machine.Call.{Append}
use Rattle.tw_service.specs.Machine.Reply.{OfThread, Refused}
use Rattle.tw_base.specs.declared.history.refusal.Refusal.{Refusal}
use Rattle.tw_base.specs.declared.history.refusal.Refusal.TheVariants.{BadPage, DiskFault, Reopen, NoMemory}

-- ---- a disk fault is a fault

abbrev pub fails : (T : Type 0) → Refusal → Result T Refusal
fails T r = Err r

pub is_disk_fault : (T : Type 0) (r : Refusal) → fails T r ≡ fails T DiskFault → IsFault r
is_disk_fault T r is = let same : r ≡ DiskFault = cc in subst IsFault (sym same) tt

module _ (dig : List ℕ → List ℕ) {T : Type 0} (h : History) (call : Call) (reply : T → Reply) (Serves : History
    → Type 0) where
  -- a refusal of a table
  pub answers_refusal : (r : Refusal) → IsTold r → IsStepOf dig h call (Refused r) h → Serves h → AnswersByMachine dig h
      call reply (Err r) Serves
  answers_refusal (BadPage page) is step served = absurd (is.0 tt)
  answers_refusal DiskFault is step served = tt
  answers_refusal Reopen is step served = absurd (is.1 refl)
  answers_refusal NoMemory is step served = served
  answers_refusal _ is step served = (step, served)

  -- a fault
  pub answers_fault : (r : Refusal) → IsFault r → (IsBadPageRefusal r → ⊥) → (r ≡ DiskFault) ⊎ Serves h
      → AnswersByMachine dig h call reply (Err r) Serves
  answers_fault (BadPage page) is good served = absurd (good tt)
  answers_fault DiskFault is good served = tt
  answers_fault NoMemory is good (inl same) = cc
  answers_fault NoMemory is good (inr served) = served
  answers_fault _ is good served = absurd is

-- ---- adding a step

module _ (dig : List ℕ → List ℕ) (h : History) (events : List (List ℕ)) (time : Option ℕ) where
  pub append_refused : (r : Refusal) → Some r ≡ append_table h events time → IsStepOf dig h (Append events time)
      (Refused r) h
  append_refused r is = subst (λ o. MatchOption o ((h ≡ with_events_at h events time)
      × (Refused r ≡ OfThread (last_thread dig h))) (λ refusal. (h ≡ h) × (Refused r ≡ Refused refusal))) is
      (refl, refl)

  pub append_done : (t : Thread) → None ≡ append_table h events time → t ≡ last_thread dig
      (with_events_at h events time) → IsStepOf dig h (Append events time) (OfThread t) (with_events_at h events time)
  append_done t is same =
      subst (λ o. MatchOption o ((with_events_at h events time ≡ with_events_at h events time)
      × (OfThread t ≡ OfThread (last_thread dig (with_events_at h events time))))
      (λ refusal. (with_events_at h events time ≡ h) × (OfThread t ≡ Refused refusal))) is
      (refl, ap OfThread same)

-- ---- what holds of an answer
