-- From what a service answers to the adding of a step to what the command comes to.
use Rattle.std.proofs.Common.{◌≡◌, ◌∙◌, ℕ, ◌+◌, List, Bool, false, refl, ap, subst}
use Rattle.std.specs.Prelude.{Option, Some, None, Result, Ok, Err, MatchOption}
use Rattle.sha2.specs.Sha256.{sha256}
use Rattle.tw_base.specs.declared.history.thread.Thread.{Thread}
use Rattle.tw_base.specs.history.History.{History}
use Rattle.tw_disk.specs.Image.{Image}
use Rattle.tw_base.specs.kinds.Faults.{Rose}
use Rattle.tw_disk.specs.Found.Found.{Is}
use Rattle.tw_base.specs.declared.history.refusal.Refusal.{Refusal}
use Rattle.tw_base.specs.declared.history.refusal.Refusal.TheVariants as service
use Rattle.tw_answers.specs.declared.root.RootRecord.{RootRecord}
use Rattle.tw_service.specs.EventStep.{with_events_at}
use Rattle.tw_answers.specs.Refusals.{IsFault}
use Rattle.tw_answers.specs.Finds.{IsRefusalFound}
use Rattle.tw_service.specs.Finds.{found_thread}
use Rattle.tw_answers.specs.Limits.{append_refusal}
use Rattle.tw_service.specs.Machine.{AnswersByMachine, IsStepOf, append_table, last_thread}
use Rattle.tw_service.specs.Machine.Call.{Append}
use Rattle.tw_service.specs.Machine.Reply.{OfThread, Refused}
use Rattle.tw_text.specs.declared.fault.CommandFault.{CommandFault}
use Rattle.tw_diskcmd.specs.Answers.{IsOpened}
use Rattle.tw_diskcmd.specs.Appending.{MachineAdds, StepComes, TableAdds, append_found, table_of}
use Rattle.tw_diskcmd.specs.Disks.{FoundDisk, ReadsAsHistory}
use Rattle.tw_diskcmd.specs.Faults.{fault_of_service}
use Rattle.tw_diskcmd.proofs.Results.{Table, allowed, by_table, done, fault_can, machine_refuses, no_never, refused}
use Rattle.tw_diskcmd.proofs.Tables.{append_can}

-- ---- a step of the machine

-- the step that is told is the last one of the longer history
longer_by : (table : Option Refusal) (h next : History) (events : List (List ℕ)) (time : Option ℕ) (thread : Thread)
    → MatchOption table ((next ≡ with_events_at h events time) × (OfThread thread ≡ OfThread (last_thread sha256 next)))
    (λ r. (next ≡ h) × (OfThread thread ≡ Refused r))
    → (thread ≡ last_thread sha256 (with_events_at h events time))
    × MatchOption table ((with_events_at h events time ≡ with_events_at h events time)
    × (OfThread thread ≡ OfThread (last_thread sha256 (with_events_at h events time))))
    (λ r. (with_events_at h events time ≡ h) × (OfThread thread ≡ Refused r))
longer_by None h next events time thread is =
    let told : OfThread thread ≡ OfThread (last_thread sha256 (with_events_at h events time)) =
    is.1 ∙ ap (λ (n : History). OfThread (last_thread sha256 n)) is.0 in
    (same_thread thread _ told, (refl, told))
  where
    same_thread : (x y : Thread) → OfThread x ≡ OfThread y → x ≡ y
    same_thread x y e = cc
longer_by (Some r) h next events time thread is = let other : OfThread thread ≡ Refused r = is.1 in absurd (cc)

to_longer : (h next : History) (events : List (List ℕ)) (time : Option ℕ) (thread : Thread)
    → IsStepOf sha256 h (Append events time) (OfThread thread) next → MachineAdds events time h (Ok thread)
to_longer h next events time thread is = longer_by (append_table h events time) h next events time thread is

-- ---- what the service's answer comes to

module _ (t : FoundDisk) (events : List (List ℕ)) (time : Option ℕ) (is_broken : Bool) (root : RootRecord)
    (pages : Option Image) (opens : IsOpened t.found root pages) (whole : is_broken ≡ false)
    (OldServes NewServes : History → Type 0) (serves : (h : History) → ReadsAsHistory t.found h → OldServes h) where
  abbrev here : ℕ × Option ℕ
  here = (root.head.step, root.time)

  abbrev the_table : Option Refusal
  the_table = append_refusal is_broken root.head.step root.time events time

  whole_table : (result : Result Thread Refusal) → Table the_table result → Table (table_of events time here) result
  whole_table result table = subst (λ b. Table (append_refusal b root.head.step root.time events time) result) whole
      table

  pub step_done : (thread : Thread) → Table the_table (Ok thread) → thread.step ≡ root.head.step + 1
      → ((h : History) → OldServes h → (next : History) × IsStepOf sha256 h (Append events time) (OfThread thread) next)
      → ((ps : Image) → pages ≡ Some ps → found_thread sha256 ps root.name root.head is_broken root.time events time
      root.archive ≡ Is (Ok thread)) → StepComes t events time (Ok thread)
  step_done thread table next steps finds =
      done (append_found events time) (TableAdds events time) (MachineAdds events time) t root pages opens thread
      (λ ps is. subst (λ b. found_thread sha256 ps root.name root.head b root.time events time root.archive ≡ Is
      (Ok thread)) whole (finds ps is))
      (here, allowed IsFault (table_of events time here) thread (whole_table (Ok thread) table), next)
      (λ h reads. let step = steps h (serves h reads) in to_longer h step.0 events time thread step.1)

  pub step_refused : (r : Refusal) (came : CommandFault) → came ≡ fault_of_service r → Table {X = Thread} the_table
      (Err r)
      → ((h : History) → OldServes h → AnswersByMachine sha256 h (Append events time) (λ t. OfThread t) (Err r)
      NewServes)
      → (◌≡◌ {A = Result Thread Refusal} (Err r) (Err service.DiskFault) → Rose t.before t.after)
      → ((ps : Image) → pages ≡ Some ps → IsRefusalFound r (found_thread sha256 ps root.name root.head is_broken
      root.time events time root.archive))
      → StepComes t events time (Err came)
  step_refused r came is table machine rose finds =
      refused (append_found events time) (TableAdds events time) (MachineAdds events time) t root pages opens r came is
      (no_never Thread IsFault (table_of events time here) (append_can root.head.step root.time events time) fault_can r
      (whole_table (Err r) table)) rose
      (λ ps told. subst (λ b. IsRefusalFound r (found_thread sha256 ps root.name root.head b root.time events time
      root.archive)) whole (finds ps told))
      (λ tells. by_table Thread (table_of events time) here (table_of events time here) refl r tells
      (whole_table (Err r) table))
      (λ tells h reads. machine_refuses h (Append events time) (λ t. OfThread t) NewServes r tells
      (machine h (serves h reads)))
