-- What receiving a message makes: where the first lines of its table refuse it, and where the store took it in.
use Rattle.std.proofs.Common.{◌≡◌, ◌≢◌, ◌⊎◌, ℕ, ◌+◌, ◌≤◌, List, length, refl, ap, sym, ◌∙◌, subst, arith, inl, inr}
use Rattle.std.proofs.Common.{⊎_elim, Bool, true, false}
use Rattle.std.specs.Prelude.{◌↔◌, IsTrue, MatchOption, Option, Some, None, Result, Ok, Err, IfErr, IfOk}
use Rattle.std.specs.Str.{bytes_eq}
use Rattle.std.proofs.lemmas.Result.{IfErr-weaker, IfOk-weaker}
use Rattle.tw_base.specs.history.History.{History}
use Rattle.tw_base.specs.history.Limits.{IsStep}
use Rattle.tw_base.specs.history.Tree.{entries, tree}
use Rattle.tw_base.specs.kinds.Faults.{Rose}
use Rattle.tw_disk.specs.Disk.{DiskView, LeavesOnly}
use Rattle.tw_disk.specs.Image.{Image}
use Rattle.tw_msg.specs.declared.message.Message.{Message}
use Rattle.tw_msg.specs.declared.receipt.Receipt.{Receipt}
use Rattle.tw_pages.specs.declared.store.Store.{Store}
use Rattle.tw_pages.specs.Same.{IsSameStore, store_list}
use Rattle.tw_pages.specs.SameSteps.{is_same_itself}
use Rattle.tw_pages.specs.StoreValue.{is_broken, store_disk}
use Rattle.tw_archive.specs.Judging.{judged_message}
use Rattle.tw_base.specs.declared.history.refusal.Refusal.{Refusal}
use Rattle.tw_base.specs.declared.history.refusal.Refusal.TheVariants.{Own, Forked, Stale, BadLink, Full, ClockBack}
use Rattle.tw_base.specs.declared.history.refusal.Refusal.TheVariants.{DiskFault, Reopen}
use Rattle.tw_answers.specs.declared.root.RootRecord.{RootRecord}
use Rattle.tw_answers.specs.Limits.{own_refusal}
use Rattle.tw_answers.specs.Refusals.{IsBadPageRefusal, IsFault}
use Rattle.tw_answers.proofs.TableAnswers.{IsTold, NoFault, Of, of_if, of_some}
use Rattle.tw_service.specs.declared.service.Service.{Service}
use Rattle.tw_service.specs.Adding.{CallSteps, Receives}
use Rattle.tw_service.specs.Archiving.{ReceivesAs}
use Rattle.tw_service.specs.Finds.{found_reception, receipt_at}
use Rattle.tw_service.specs.Keeps.{StoreServes}
use Rattle.tw_service.specs.Machine.{AnswersByMachine, IsStepOf, RepliesTo}
use Rattle.tw_service.specs.Machine.Call.{Receive}
use Rattle.tw_service.specs.Machine.Reply.{OfReceipt, Refused}
use Rattle.tw_service.specs.NextRecords.{next_record}
use Rattle.tw_service.specs.Receiving.{TellsOfMessage, reception, refuse_or}
use Rattle.tw_service.specs.Serves.{HasSameDisk, Serves, disk_of, head_of, head_thread, name_of, record_of, steps_of}
use Rattle.tw_service.specs.Stands.{StandsFor, greatest_time}
use Rattle.tw_service.specs.TakingIn.{StepsIn, TakesIn}
use Rattle.tw_service.specs.Writing.{ArchivesTo, IsReceiptOfRecord}
use Rattle.tw_service.proofs.Answering.{answers_fault, answers_refusal, is_disk_fault}
use Rattle.tw_service.proofs.Serving.{read_leaves, read_serves, same_leaves, same_tells, nothing_written}

abbrev fails : Refusal → Result Receipt Refusal
fails why = Err why

-- ---- the first lines of the table

own_told : (name from : List ℕ) → Of IsTold (own_refusal false name from)
unfolding own_refusal
own_told name from = of_if IsTold (bytes_eq from name) (Some Own) None ((λ is. is), (λ is. cc)) tt

pub own_no_fault : (broken : Bool) (name from : List ℕ) → Of NoFault (own_refusal broken name from)
unfolding own_refusal
own_no_fault true name from = λ is. is
own_no_fault false name from = of_if NoFault (bytes_eq from name) (Some Own) None (λ is. is) tt

-- after a disk fault the first one stands
pub own_broken : (broken : Bool) (name from : List ℕ) → broken ≡ true → Some Reopen ≡ own_refusal broken name from
unfolding own_refusal
own_broken true name from is = refl
own_broken false name from is = cc

-- what tells of a message is no fault
pub tells_told : (dig : List ℕ → List ℕ) (steps : ℕ) (clock time : Option ℕ) (m : Message) (r : Refusal)
    → TellsOfMessage dig steps clock time m r → IsTold r
tells_told dig steps clock time m (Forked step kept offered) tells = ((λ is. is), (λ is. cc))
tells_told dig steps clock time m (Stale last) tells = ((λ is. is), (λ is. cc))
tells_told dig steps clock time m (BadLink last kept) tells = ((λ is. is), (λ is. cc))
tells_told dig steps clock time m Full tells = ((λ is. is), (λ is. cc))
tells_told dig steps clock time m (ClockBack last given) tells = ((λ is. is), (λ is. cc))
tells_told dig steps clock time m _ tells = absurd tells

-- ---- the machine

module _ (dig : List ℕ → List ℕ) (h : History) (m : Message) (time : Option ℕ) where
  pub receive_refused : (r : Refusal) → Some r ≡ own_refusal false h.name m.thread.from
      → IsStepOf dig h (Receive m time) (Refused r) h
  receive_refused r is =
      subst (λ (o : Option Refusal). RepliesTo dig h m time (Refused r) h
      (refuse_or o (reception (length h.steps) (greatest_time h) time
      (judged_message dig (entries (tree h (length h.steps))) m)))) is (refl, refl)

-- ---- a store that took a message in, of a service

module _ {D H : Type 0} {g : _} {k : _} (view : D → DiskView) (only_now : (d : D) (c : Image) → (view d).left_since
    (view d).moment c → (view d).may_leave c) (dig : List ℕ → List ℕ) (m : Message) (time : Option ℕ) where
  abbrev Taken : (s t : Service D H g k) → Result Receipt Refusal → Type 0
  Taken s t result = TakesIn dig view m time s.recorded.kept.store t.recorded.kept.store s.recorded.kept.root
      t.recorded.kept.root result

  module _ (s t : Service D H g k) (h : History) (served : Serves dig view s h) where
    abbrev Stepped : Result Receipt Refusal → Type 0
    Stepped result = StepsIn dig view m time s.recorded.kept.store t.recorded.kept.store s.recorded.kept.root
        t.recorded.kept.root result h

    -- what a refusal leaves, and makes of the machine
    left_on : (result : Result Receipt Refusal) → IfErr result (λ r. (r ≡ DiskFault) ⊎ HasSameDisk view s t)
        → IfErr result (λ r. (r ≡ DiskFault) ⊎ Serves dig view t h) → IfErr result (λ r. (r ≡ DiskFault)
        ⊎ (Serves dig view t h × LeavesOnly (view (disk_of s)) (view (disk_of t)) (λ i. StandsFor dig i (name_of s) h)))
    left_on (Ok receipt) unwritten kept = tt
    left_on (Err r) unwritten kept = ⊎_elim (λ fault. inl fault) (λ rest. ⊎_elim (λ fault. inl fault)
        (λ same. inr (
          rest,
          read_leaves view only_now dig s.recorded.kept.store t.recorded.kept.store s.recorded.kept.root h same served,
        )) unwritten) kept

    machine_on : (result : Result Receipt Refusal) → Taken s t result → Stepped result → IfErr result
        (λ r. AnswersByMachine dig h (Receive m time) (λ (x : Receipt). OfReceipt x) (Err r) (Serves dig view t))
    machine_on (Ok receipt) taken x = tt
    machine_on (Err r) taken x = ⊎_elim
        (λ fault. answers_fault dig h (Receive m time) (λ (y : Receipt). OfReceipt y) (Serves dig view t) r fault
        x.good x.kept)
        (λ tells.
        let told = tells_told dig s.recorded.kept.root.head.step s.recorded.kept.root.time time m r tells in
        answers_refusal dig h (Receive m time) (λ (y : Receipt). OfReceipt y) (Serves dig view t) r told
        (x.refused told.0)
        (⊎_elim (λ fault. absurd (told.0 (subst IsFault (sym fault) tt))) (λ rest. rest) x.kept))
        taken.tells

    steps_on : (result : Result Receipt Refusal) → Taken s t result → Stepped result
        → CallSteps dig view (Receive m time) (λ (x : Receipt). OfReceipt x) s t result h
    steps_on result taken x = record {
      next = x.next;
      is_next = x.is_next;
      any_moment = x.any_moment;
      told = x.told;
      done = x.done;
      refused = left_on result taken.same x.kept;
      machine = λ whole. machine_on result taken x;
    }

  -- the record after a step
  record_on : (s t : Service D H g k) (receipt : Receipt)
      → (IsStep receipt.by.step × (receipt.by.step ≤ steps_of s) × (record_of t ≡ record_of s) × HasSameDisk view s t)
      ⊎ ((receipt ≡ receipt_at (name_of s) (head_of t) m.thread) × (steps_of t ≡ steps_of s + 1)
      × (record_of t ≡ next_record (record_of s) (head_of t) t.recorded.kept.root.archive
      (s.recorded.kept.root.threads + 1) time))
      → (IsStep receipt.by.step × (receipt.by.step ≤ steps_of s) × (record_of t ≡ record_of s) × HasSameDisk view s t)
      ⊎ ((receipt.by ≡ head_thread t) × (steps_of t ≡ steps_of s + 1) × (record_of t ≡ next_record (record_of s)
      (head_of t) t.recorded.kept.root.archive (s.recorded.kept.root.threads + 1) time))
  record_on s t receipt either =
      ⊎_elim (λ known. inl known)
      (λ made. let names = ap (λ (r : RootRecord). r.name) made.2 in
      inr (
        ap (λ (x : Receipt). x.by) made.0
            ∙ (λ j. record { from = sym names j; step = steps_of t; auth = t.recorded.kept.root.head.auth }),
        made.1,
        made.2,
      )) either

  record_if : (s t : Service D H g k) (result : Result Receipt Refusal) → Taken s t result
      → IfOk result (λ receipt. (IsStep receipt.by.step × (receipt.by.step ≤ steps_of s) × (record_of t ≡ record_of s)
      × HasSameDisk view s t)
      ⊎ ((receipt.by ≡ head_thread t) × (steps_of t ≡ steps_of s + 1) × (record_of t ≡ next_record (record_of s)
      (head_of t) t.recorded.kept.root.archive (s.recorded.kept.root.threads + 1) time)))
  record_if s t (Ok receipt) taken = record_on s t receipt taken.record_is
  record_if s t (Err r) taken = tt

  pub received_taken : (s t : Service D H g k) (result : Result Receipt Refusal) → None ≡ own_refusal s.is_broken
      s.recorded.kept.root.name m.thread.from → s.is_broken ≡ false → m.thread.from ≢ s.recorded.kept.root.name
      → TakesIn dig view m time s.recorded.kept.store t.recorded.kept.store s.recorded.kept.root t.recorded.kept.root
      result → IsTrue t.is_broken ↔ (result ≡ Err DiskFault) → Receives dig view m time s t result
  received_taken s t result none whole other taken flag = record {
    table = subst (λ (o : Option Refusal). MatchOption o
        (IfErr result (λ why. IsFault why ⊎ TellsOfMessage dig (steps_of s) s.recorded.kept.root.time time m why))
        (λ why. result ≡ Err why)) none taken.tells;
    answer = λ is ps list. taken.answer ps list;
    steps = λ h served. steps_on s t h served result taken (taken.steps h served other);
    written = taken.written;
    receipt = taken.receipt;
    record_is = record_if s t result taken;
    kept = taken.kept;
    unwritten = taken.same;
    broken = (
      (λ failed. inr (flag.0 failed)),
      (λ either. ⊎_elim (λ failed. let was : IsTrue false = subst (λ (b : Bool). IsTrue b) whole failed in absurd cc)
          (λ is. flag.1 is) either),
    );
    fault = taken.fault;
    later = taken.later;
  }

  -- the first lines refuse it
  pub received_refused : (s : Service D H g k) (r : Refusal) → Some r ≡ own_refusal s.is_broken
      s.recorded.kept.root.name m.thread.from → Receives dig view m time s s (Err r)
  received_refused s r is =
      let store = s.recorded.kept.store in
      let root = s.recorded.kept.root in
      let told : IsFault r → ⊥ = of_some NoFault _ r is (own_no_fault s.is_broken root.name m.thread.from) in
      record {
        table = subst (λ (o : Option Refusal). MatchOption o
            (IfErr (fails r) (λ why. IsFault why ⊎ TellsOfMessage dig (steps_of s) root.time time m why))
            (λ why. fails r ≡ Err why)) is refl;
        answer = λ none. (let both : Some r ≡ None = is ∙ none in absurd cc);
        steps = λ h served. record {
          next = h;
          is_next = inl refl;
          any_moment = same_leaves view only_now dig store store root h h (is_same_itself view store) served;
          told = same_tells view only_now dig store store root h h (is_same_itself view store) served;
          done = tt;
          refused = inr (served, read_leaves view only_now dig store store root h (is_same_itself view store) served);
          machine = λ whole.
              let own : Some r ≡ own_refusal false h.name m.thread.from =
              is ∙ (λ j. own_refusal (whole j) (sym served.keeps.named j) m.thread.from) in
              answers_refusal dig h (Receive m time) (λ (x : Receipt). OfReceipt x) (Serves dig view s) r
              (of_some IsTold _ r own (own_told h.name m.thread.from)) (receive_refused dig h m time r own) served;
        };
        written = λ ps over. nothing_written view only_now (ArchivesTo dig m time) (IsReceiptOfRecord dig m time) store
            store root root (Err r) ps (is_same_itself view store) over refl tt;
        receipt = tt;
        record_is = tt;
        kept = refl;
        unwritten = inr (is_same_itself view store);
        broken = (
          (λ failed. inl failed),
          (λ either. ⊎_elim (λ failed. failed) (λ fault. absurd (told (is_disk_fault Receipt r fault))) either),
        );
        fault = λ fault. absurd (told (is_disk_fault Receipt r fault));
        later = omega arith;
      }

-- ---- a store that was only read

module _ {D : Type 0} {g : _} (view : D → DiskView) (only_now : (d : D) (c : Image) → (view d).left_since
    (view d).moment c → (view d).may_leave c) (dig : List ℕ → List ℕ) (m : Message) (time : Option ℕ)
    (old new : Store D g) (root : RootRecord) (same : IsSameStore view old new) where
  abbrev finds_as : Result Receipt Refusal → Type 0
  finds_as result = (ps : Image) → store_list view old ≡ Some ps → ReceivesAs dig ps root m time root.head root.archive
      result (found_reception dig ps root.name root.head root.archive root.time m time)

  -- of a history that was kept, the same is the next one
  steps_in : (result : Result Receipt Refusal) (h : History) → StoreServes dig view old root h
      → IfOk result (λ receipt. IsStepOf dig h (Receive m time) (OfReceipt receipt) h)
      → IfErr result (λ r. ((IsFault r → ⊥) → IsStepOf dig h (Receive m time) (Refused r) h)
      × (IsBadPageRefusal r → ⊥)) → StepsIn dig view m time old new root root result h
  steps_in result h rest made refused = record {
    next = h;
    is_next = inl refl;
    any_moment = same_leaves view only_now dig old new root h h same rest;
    told = same_tells view only_now dig old new root h h same rest;
    done = IfOk-weaker result _ _ (λ receipt step. (step, read_serves view only_now dig old new root h same rest)) made;
    kept = IfErr-weaker result _ _ (λ r so. inr (read_serves view only_now dig old new root h same rest)) refused;
    refused = IfErr-weaker result _ _ (λ r so. so.0) refused;
    good = IfErr-weaker result _ _ (λ r so. so.1) refused;
  }

  -- it is refused
  pub taken_err : (r : Refusal) → (IsFault r ⊎ TellsOfMessage dig root.head.step root.time time m r) → finds_as (Err r)
      → (r ≡ DiskFault) ⊎ (is_broken new ≡ false)
      → ((h : History) → StoreServes dig view old root h → m.thread.from ≢ root.name
      → ((IsFault r → ⊥) → IsStepOf dig h (Receive m time) (Refused r) h) × (IsBadPageRefusal r → ⊥))
      → (r ≡ DiskFault → Rose (view (store_disk old)).faults (view (store_disk new)).faults)
      → (view (store_disk old)).faults ≤ (view (store_disk new)).faults → TakesIn dig view m time old new root root
      (Err r)
  taken_err r tells answer whole step rose later = record {
    tells = tells;
    answer = answer;
    steps = λ h rest other. steps_in (Err r) h rest tt (step h rest other);
    written = λ ps over. nothing_written view only_now (ArchivesTo dig m time) (IsReceiptOfRecord dig m time) old new
        root root (Err r) ps same over refl tt;
    receipt = tt;
    record_is = tt;
    kept = refl;
    same = inr same;
    whole = ⊎_elim (λ fault. inl (ap fails fault)) (λ good. inr good) whole;
    fault = λ is. rose (of_fails is);
    later = later;
  }
    where
      of_fails : fails r ≡ fails DiskFault → r ≡ DiskFault
      of_fails is = cc

  -- its thread is known
  pub taken_known : (receipt : Receipt) → finds_as (Ok receipt) → is_broken new ≡ false → (receipt.thread ≡ m.thread)
      × (receipt.by.from ≡ root.name) → IsStep receipt.by.step → receipt.by.step ≤ root.head.step
      → ((h : History) → StoreServes dig view old root h → m.thread.from ≢ root.name → IsStepOf dig h (Receive m time)
      (OfReceipt receipt) h)
      → (view (store_disk old)).faults ≤ (view (store_disk new)).faults → TakesIn dig view m time old new root root
      (Ok receipt)
  taken_known receipt answer whole of_thread is_step below step later = record {
    tells = tt;
    answer = answer;
    steps = λ h rest other. steps_in (Ok receipt) h rest (step h rest other) tt;
    written = λ ps over. nothing_written view only_now (ArchivesTo dig m time) (IsReceiptOfRecord dig m time) old new
        root root (Ok receipt) ps same over refl (inl (refl, below));
    receipt = of_thread;
    record_is = inl (is_step, below, refl, same);
    kept = tt;
    same = tt;
    whole = inr whole;
    fault = λ is. cc;
    later = later;
  }
