-- What a call that only reads makes: where its table refuses it, where it answers, and where it meets a fault.
use Rattle.std.proofs.Common.{◌≡◌, ◌⊎◌, ℕ, ◌≤◌, List, refl, ap, sym, subst, arith, inl, inr, ⊎_elim, false}
use Rattle.std.specs.Prelude.{◌↔◌, IsTrue, MatchOption, Option, Some, None, Result, Ok, Err, IfErr}
use Rattle.tw_base.specs.history.History.{History}
use Rattle.tw_base.specs.kinds.Faults.{Rose}
use Rattle.tw_disk.specs.Disk.{DiskView, LeavesOnly}
use Rattle.tw_disk.specs.Found.{Found}
use Rattle.tw_disk.specs.Found.Found.{Is}
use Rattle.tw_disk.specs.Image.{Image}
use Rattle.tw_pages.specs.Records.{IsWritten, written_record}
use Rattle.tw_pages.specs.Rests.{RestsWith}
use Rattle.tw_pages.proofs.Written.{only_same, still_rests}
use Rattle.tw_pages.specs.Same.{IsSameStore}
use Rattle.tw_pages.specs.SameSteps.{is_same_itself}
use Rattle.tw_base.specs.declared.history.refusal.Refusal.{Refusal}
use Rattle.tw_base.specs.declared.history.refusal.Refusal.TheVariants.{DiskFault}
use Rattle.tw_answers.specs.declared.root.RootRecord.{RootRecord}
use Rattle.tw_service.specs.declared.service.Service.{Service}
use Rattle.tw_service.specs.Asking.{AsksOr}
use Rattle.tw_answers.specs.Finds.{IsFoundAnswer, IsRefusalFound, unless}
use Rattle.tw_service.specs.Keeps.{StoreServes}
use Rattle.tw_service.specs.Machine.{AnswersByMachine, Call, IsStepOf, Reply}
use Rattle.tw_service.specs.Machine.Reply.{Refused}
use Rattle.tw_answers.specs.Refusals.{IsBadPageRefusal, IsFault}
use Rattle.tw_answers.specs.Roots.{root_kind}
use Rattle.tw_service.specs.Serves.{IsOver, Serves, disk_of, has_failed, pages_of, record_of}
use Rattle.tw_answers.proofs.TableAnswers.{IsTold}
use Rattle.tw_service.proofs.Answering.{answers_fault, answers_refusal, is_disk_fault}
use Rattle.tw_answers.proofs.FoundAnswers.{table_found}
use Rattle.tw_service.proofs.Serving.{read_leaves, read_serves}

abbrev fails : (T : Type 0) → Refusal → Result T Refusal
fails T why = Err why

-- a call that asks of pages what its table lets through
module _ {D H : Type 0} {g : _} {k : _} (view : D → DiskView) (only_now : (d : D) (c : Image) → (view d).left_since
    (view d).moment c → (view d).may_leave c) (dig : List ℕ → List ℕ) {T : Type 0} (Own : Refusal → Type 0)
    (call : Call) (reply : T → Reply)
    (table : Option Refusal) (in_pages : Image → Found (Result T Refusal)) where
  -- a store that was only read
  over_on : (s t : Service D H g k) → record_of t ≡ record_of s → IsSameStore view s.recorded.kept.store
      t.recorded.kept.store
      → (ps : Image) → IsOver view s ps → IsOver view t ps × LeavesOnly (view (disk_of s)) (view (disk_of t))
      (IsWritten root_kind (written_record (record_of s) ps))
  over_on s t root same ps over = (
    subst (λ (r : RootRecord). RestsWith view root_kind t.recorded.kept.store (written_record r ps)) (sym root)
        (still_rests view root_kind s.recorded.kept.store t.recorded.kept.store (written_record s.recorded.kept.root ps)
        same over),
    only_same view root_kind only_now s.recorded.kept.store t.recorded.kept.store (written_record s.recorded.kept.root
        ps) (IsWritten root_kind (written_record s.recorded.kept.root ps)) same over (λ i was. was),
  )

  -- the table's refusal
  pub asked_refused : (s : Service D H g k) (r : Refusal) → Some r ≡ table → (IsFault r → ⊥)
      → (has_failed s ≡ false → (h : History) → Serves dig view s h → IsTold r × IsStepOf dig h call (Refused r) h)
      → AsksOr dig view Own call reply table (λ ps. unless table (in_pages ps)) s s (Err r)
  asked_refused s r is told step = record {
    table = subst (λ (o : Option Refusal). MatchOption o (IfErr (fails T r) (λ why. IsFault why ⊎ Own why))
        (λ why. fails T r ≡ Err why)) is refl;
    answer = λ ps list. table_found r (unless table (in_pages ps)) told
        (ap (λ (o : Option Refusal). unless o (in_pages ps)) (sym is));
    machine = λ whole h served. let own = step whole h served in answers_refusal dig h call reply (Serves dig view s) r
        own.0 own.1 served;
    same = λ h served. (
      served,
      read_leaves view only_now dig s.recorded.kept.store s.recorded.kept.store s.recorded.kept.root h
          (is_same_itself view s.recorded.kept.store) served,
    );
    unwritten = is_same_itself view s.recorded.kept.store;
    over = over_on s s refl (is_same_itself view s.recorded.kept.store);
    kept = refl;
    broken = (
      (λ failed. inl failed),
      (λ either. ⊎_elim (λ failed. failed) (λ fault. absurd (told (is_disk_fault T r fault))) either),
    );
    fault = λ fault. absurd (told (is_disk_fault T r fault));
    later = omega arith;
  }

  -- the pages were read
  module _ (s t : Service D H g k) (none : None ≡ table) (root : record_of t ≡ record_of s)
      (same : IsSameStore view s.recorded.kept.store t.recorded.kept.store)
      (later : (view (disk_of s)).faults ≤ (view (disk_of t)).faults) where
    serves_on : (h : History) → Serves dig view s h → Serves dig view t h
    serves_on h served = subst (λ (r : RootRecord). StoreServes dig view t.recorded.kept.store r h) (sym root)
        (read_serves view only_now dig s.recorded.kept.store t.recorded.kept.store s.recorded.kept.root h same served)

    -- what is so whatever was answered
    asks_read : (result : Result T Refusal) → IfErr result (λ why. IsFault why ⊎ Own why)
        → ((ps : Image) → pages_of view s ≡ Some ps → IsFoundAnswer result (in_pages ps))
        → (has_failed s ≡ false → (h : History) → Serves dig view s h → AnswersByMachine dig h call reply result
        (Serves dig view t)) → IsTrue t.is_broken ↔ (IsTrue s.is_broken ⊎ (result ≡ Err DiskFault))
        → (result ≡ Err DiskFault → Rose (view (disk_of s)).faults (view (disk_of t)).faults)
        → AsksOr dig view Own call reply table (λ ps. unless table (in_pages ps)) s t result
    asks_read result left finds machine broken fault = record {
      table = subst (λ (o : Option Refusal). MatchOption o (IfErr result (λ why. IsFault why ⊎ Own why))
          (λ why. result ≡ Err why)) none left;
      answer = λ ps list. subst (λ (f : Found (Result T Refusal)). IsFoundAnswer result f)
          (ap (λ (o : Option Refusal). unless o (in_pages ps)) none) (finds ps list);
      machine = machine;
      same = λ h served. (
        serves_on h served,
        read_leaves view only_now dig s.recorded.kept.store t.recorded.kept.store s.recorded.kept.root h same served,
      );
      unwritten = same;
      over = over_on s t root same;
      kept = root;
      broken = broken;
      fault = fault;
      later = later;
    }

    pub asked_ok : (x : T) → t.is_broken ≡ s.is_broken → ((ps : Image) → pages_of view s ≡ Some ps
        → in_pages ps ≡ Is (Ok x))
        → (has_failed s ≡ false → (h : History) → Serves dig view s h → IsStepOf dig h call (reply x) h)
        → AsksOr dig view Own call reply table (λ ps. unless table (in_pages ps)) s t (Ok x)
    asked_ok x flag finds step =
        asks_read (Ok x) tt finds (λ whole h served. (h, step whole h served, serves_on h served)) (
          (λ failed. inl (subst (λ b. IsTrue b) flag failed)),
          (λ either. ⊎_elim (λ failed. subst (λ b. IsTrue b) (sym flag) failed) (λ fault. cc) either),
        ) (λ fault. cc)

    -- it is refused by what was found
    pub asked_own : (r : Refusal) → Own r → IsTold r → s.is_broken ≡ false → IsTrue t.is_broken ↔ (r ≡ DiskFault)
        → ((ps : Image) → pages_of view s ≡ Some ps → IsRefusalFound r (in_pages ps))
        → (has_failed s ≡ false → (h : History) → Serves dig view s h → IsStepOf dig h call (Refused r) h)
        → AsksOr dig view Own call reply table (λ ps. unless table (in_pages ps)) s t (Err r)
    asked_own r own told whole flag finds step =
        asks_read (Err r) (inr own) finds
        (λ good h served. answers_refusal dig h call reply (Serves dig view t) r told (step good h served)
        (serves_on h served)) (
          (λ failed. absurd (no_fault (flag.0 failed))),
          (λ either. ⊎_elim (λ failed. let was = subst (λ b. IsTrue b) whole failed in absurd cc)
              (λ is. absurd (told.0 (is_disk_fault T r is))) either),
        ) (λ is. absurd (told.0 (is_disk_fault T r is)))
      where
        no_fault : r ≡ DiskFault → ⊥
        no_fault is = told.0 (subst IsFault (sym is) tt)

    pub asked_err : (r : Refusal) → IsFault r → s.is_broken ≡ false → IsTrue t.is_broken ↔ (r ≡ DiskFault)
        → ((ps : Image) → pages_of view s ≡ Some ps → IsRefusalFound r (in_pages ps))
        → ((h : History) → Serves dig view s h → IsBadPageRefusal r → ⊥)
        → (r ≡ DiskFault → Rose (view (disk_of s)).faults (view (disk_of t)).faults) → AsksOr dig view Own call reply
        table (λ ps. unless table (in_pages ps)) s t (Err r)
    asked_err r fault whole flag finds good rose =
        asks_read (Err r) (inl fault) finds
        (λ whole h served. answers_fault dig h call reply (Serves dig view t) r fault (good h served)
        (inr (serves_on h served))) (
          (λ failed. inr (ap (fails T) (flag.0 failed))),
          (λ either. ⊎_elim (λ failed. let was = subst (λ b. IsTrue b) whole failed in absurd cc)
              (λ is. flag.1 (of_fails is)) either),
        ) (λ is. rose (of_fails is))
      where
        of_fails : fails T r ≡ fails T DiskFault → r ≡ DiskFault
        of_fails is = cc
