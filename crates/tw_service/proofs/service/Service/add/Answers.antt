use Rattle.std.proofs.Common.{◌≡◌, ◌∙◌, ℕ, List, Bool, subst, ap, inl, inr, length, refl, ⊎_elim, sym}
use Rattle.std.specs.Prelude.{false, is_some, Option, None, Some, Result, Ok, Err}
use Rattle.tw_base.specs.declared.history.content.Content.TheVariants.{Events}
use Rattle.tw_base.specs.declared.history.root.Root.{Root}
use Rattle.tw_base.specs.declared.history.thread.Thread.{Thread}
use Rattle.tw_base.specs.history.History.{History}
use Rattle.tw_disk.specs.Answers.{Next}
use Rattle.tw_disk.specs.Found.{Found, ◌>>=◌}
use Rattle.tw_disk.specs.Found.Found.{Is}
use Rattle.tw_disk.specs.Image.{Image}
use Rattle.tw_disk.proofs.FoundLaws.{is_on}
use Rattle.tw_pages.specs.Records.{Written, written_record}
use Rattle.tw_pages.specs.Same.{IsSameStore}
use Rattle.tw_pages.specs.SameSteps.{is_same_itself}
use Rattle.tw_skiplist.specs.Appended.{appended}
use Rattle.tw_skiplist.specs.declared.head.Head.{Head}
use Rattle.tw_base.specs.declared.history.refusal.Refusal.{Refusal}
use Rattle.tw_answers.specs.declared.root.RootRecord.{RootRecord}
use Rattle.tw_service.specs.EventStep.{with_events_at}
use Rattle.tw_answers.specs.Finds.{IsRefusalFound, unless}
use Rattle.tw_service.specs.Finds.{found_thread, thread_at}
use Rattle.tw_service.specs.Keeps.{StoreServes}
use Rattle.tw_answers.specs.Limits.{append_refusal}
use Rattle.tw_service.specs.Machine.{append_table}
use Rattle.tw_service.specs.Machine.Call.{Append}
use Rattle.tw_service.specs.Machine.Reply.{OfThread}
use Rattle.tw_service.specs.Serves.{Serves}
use Rattle.tw_service.specs.Stands.{KeepsHistory, greatest_time}
use Rattle.tw_service.specs.Writing.{AppendsTo, IsThreadOfNext}
use Rattle.tw_answers.proofs.TableAnswers.{IsTold, NoFault, append_no_fault, append_told, of_some}
use Rattle.tw_service.proofs.Answering.{answers_fault, answers_refusal, append_done, append_refused, is_disk_fault}
use Rattle.tw_answers.proofs.FoundAnswers.{fault_page, page_on, table_found}
use Rattle.tw_service.proofs.Serving.{keeps_events, read_leaves, read_serves, room_written, same_leaves, same_tells}
use Rattle.tw_service.proofs.Serving.{answered_so, nothing_written, written_leaves, written_serves, written_tells}
use Rattle.tw_service.proofs.service.Service.add.Given as given
use Rattle.tw_service.proofs.service.Service.add.Goals as goal
use Rattle.tw_service.proofs.service.Service.add.Goals.{After-add_step}

-- the table of a served history, from that of the value
to_table : (h : History) (events : List (List ℕ)) (time : Option ℕ) (broken : Bool) (steps : ℕ) (clock : Option ℕ)
    (o : Option Refusal) → o ≡ append_refusal broken steps clock events time → broken ≡ false → steps ≡ length h.steps
    → clock ≡ greatest_time h
    → o ≡ append_table h events time
to_table h events time broken steps clock o is whole last greatest =
    is ∙ (λ j. append_refusal (whole j) (last j) (greatest j) events time)

-- ---- refused by the table

pub returns-in-Some-clause-steps : goal.returns-in-Some-clause-steps
returns-in-Some-clause-steps g c = λ h served.
    let d = g.D.Disk in
    let s = c.args.self.now in
    let r = s.recorded.kept in
    let events = c.args.events.now in
    let time = c.args.time in
    let is = sym c.in-Some.is ∙ c.append_refusal.ensures.answer in
    record {
      next = with_events_at h events time;
      is_next = refl;
      any_moment = same_leaves d.view g.met.D.Disk.only_now g.H.Hasher.dig r.store r.store r.root h
          (with_events_at h events time) (is_same_itself d.view r.store) served;
      told = same_tells d.view g.met.D.Disk.only_now g.H.Hasher.dig r.store r.store r.root h
          (with_events_at h events time) (is_same_itself d.view r.store) served;
      done = tt;
      refused =
          inr (
            served,
            read_leaves d.view g.met.D.Disk.only_now g.H.Hasher.dig r.store r.store r.root h
                (is_same_itself d.view r.store) served,
          );
      machine = λ whole.
          let told = to_table h events time s.is_broken r.root.head.step r.root.time (Some c.in-Some.refusal) is whole
          served.keeps.whole.steps.step served.keeps.whole.time in
          answers_refusal g.H.Hasher.dig h (Append events time) (λ (t : Thread). OfThread t)
          (Serves g.H.Hasher.dig d.view s) c.in-Some.refusal
          (of_some IsTold _ c.in-Some.refusal told (append_told (length h.steps) (greatest_time h) events time))
          (append_refused g.H.Hasher.dig h events time c.in-Some.refusal told) served;
    }

pub returns-in-Some-clause-broken : goal.returns-in-Some-clause-broken
returns-in-Some-clause-broken g c =
    let s = c.args.self.now in
    let no_fault = of_some NoFault _ c.in-Some.refusal (sym c.in-Some.is ∙ c.append_refusal.ensures.answer)
    (append_no_fault s.is_broken s.recorded.kept.root.head.step s.recorded.kept.root.time c.args.events.now c.args.time)
    in (
      λ failed. inl failed,
      λ either. ⊎_elim (λ failed. failed) (λ is. absurd (no_fault (is_disk_fault Thread c.in-Some.refusal is))) either,
    )

pub returns-in-Some-clause-fault : goal.returns-in-Some-clause-fault
returns-in-Some-clause-fault g c =
    let s = c.args.self.now in
    let no_fault = of_some NoFault _ c.in-Some.refusal (sym c.in-Some.is ∙ c.append_refusal.ensures.answer)
    (append_no_fault s.is_broken s.recorded.kept.root.head.step s.recorded.kept.root.time c.args.events.now c.args.time)
    in
    λ is. absurd (no_fault (is_disk_fault Thread c.in-Some.refusal is))

pub returns-in-Some-clause-answer : goal.returns-in-Some-clause-answer
unfolding found_thread
returns-in-Some-clause-answer g c = λ ps list.
    let s = c.args.self.now in
    let r = s.recorded.kept.root in
    let events = c.args.events.now in
    let is = sym c.in-Some.is ∙ c.append_refusal.ensures.answer in
    let no_fault = of_some NoFault _ c.in-Some.refusal is (append_no_fault s.is_broken r.head.step r.time events
    c.args.time) in
    table_found c.in-Some.refusal (found_thread g.H.Hasher.dig ps r.name r.head s.is_broken r.time events c.args.time
    r.archive) no_fault
    (ap (λ (o : Option Refusal). unless o (appended g.H.Hasher.dig ps r.head (Events events) r.archive c.args.time
    >>= (λ next. Is (Ok (thread_at r.name next.value))))) (sym is))

-- ---- let through by the table

pub add_step-requires-clause-allowed : goal.add_step-requires-clause-allowed
add_step-requires-clause-allowed g c =
    let r = c.args.self.now.recorded.kept.root in
    ap (λ (b : Bool). append_refusal b r.head.step r.time c.args.events.now c.args.time)
    (sym (c.append_refusal.ensures.whole (ap is_some c.in_default.is)))
    ∙ sym (sym c.in_default.is ∙ c.append_refusal.ensures.answer)

-- the step is what is found
thread_found : (dig : List ℕ → List ℕ) (ps : Image) (name : List ℕ) (head : Head) (broken : Bool) (clock : Option ℕ)
    (events : List (List ℕ)) (time : Option ℕ) (archive : Root) → append_refusal broken head.step clock events time
    ≡ None
    → found_thread dig ps name head broken clock events time archive ≡ (appended dig ps head (Events events) archive
    time >>= (λ next. Is (Ok (thread_at name next.value))))
unfolding found_thread
thread_found dig ps name head broken clock events time archive none =
    ap (λ (o : Option Refusal). unless o (appended dig ps head (Events events) archive time
    >>= (λ next. Is (Ok (thread_at name next.value))))) none

pub returns-in-Ok-clause-answer : goal.returns-in-Ok-clause-answer
returns-in-Ok-clause-answer g c = λ ps list.
    let s = c.args.self.now in
    let r = s.recorded.kept.root in
    let own = c.in-Ok.ensures.answer ps list in
    let dig = g.H.Hasher.dig in
    thread_found dig ps r.name r.head s.is_broken r.time c.args.events.now c.args.time r.archive
    (sym (sym c.in_default.is ∙ c.append_refusal.ensures.answer))
    ∙ is_on (appended dig ps r.head (Events c.args.events.now) r.archive c.args.time)
    (λ next. Is (Ok (thread_at r.name next.value))) _ own.1
    ∙ ap (λ (n : List ℕ). Is (Ok (thread_at n c.add_step.new.self.kept.root.head)))
    (sym (ap (λ q. q.name) c.in-Ok.ensures.root.0)) ∙ ap (λ (t : Thread). Is (Ok t)) (sym c.head.ensures.value)

-- the record of the step keeps the next history
next_kept : (g : given.Over) (c : After-add_step g) (h : History)
    (served : Serves g.H.Hasher.dig g.D.Disk.view c.args.self.now h) (next : Written RootRecord)
    → AppendsTo g.H.Hasher.dig c.args.events.now c.args.time (written_record c.args.self.now.recorded.kept.root
    served.pages) next
    → KeepsHistory g.H.Hasher.dig next.pages next.root (with_events_at h c.args.events.now c.args.time)
next_kept g c h served next to =
    let r = c.args.self.now.recorded.kept in
    let let_through = c.append_refusal.ensures in
    let passed = ap is_some c.in_default.is in
    keeps_events g.H.Hasher.dig (λ text. (g.met.H.Hasher.size text, g.met.H.Hasher.bytes text))
    (written_record r.root served.pages) next h served.keeps c.args.events.now c.args.time to
    (let_through.room passed) (let_through.within passed) c.requires (let_through.clock passed)
    (room_written g.D.Disk.view r.store (written_record r.root served.pages) served.rests (let_through.room passed))

pub returns-in-Ok-clause-steps : goal.returns-in-Ok-clause-steps
returns-in-Ok-clause-steps g c = λ h served.
    let d = g.D.Disk in
    let s = c.args.self.now in
    let r = s.recorded.kept in
    let t = c.add_step.new.self.kept in
    let events = c.args.events.now in
    let time = c.args.time in
    let dig = g.H.Hasher.dig in
    let none = to_table h events time s.is_broken r.root.head.step r.root.time None (sym c.in_default.is
    ∙ c.append_refusal.ensures.answer) (c.append_refusal.ensures.whole (ap is_some c.in_default.is))
    served.keeps.whole.steps.step served.keeps.whole.time in
    let it = c.in-Ok.ensures.written served.pages served.rests in
    let keeps = next_kept g (goal.at.returns-in-Ok-clause-steps g c).After-add_step h served it.next it.done.0 in
    let next_served = written_serves d.view g.met.D.Disk.only_now (AppendsTo dig events time) (λ _ w next. AppendsTo dig
    events time w next) dig r.store t.store r.root t.root (Ok tt) h (with_events_at h events time) served it (inr keeps)
    served.keeps.named keeps (it.done.1, it.done.2) in
    let own = append_done dig h events time c.head.result none (c.head.ensures.served (with_events_at h events time)
    next_served) in
    record {
      next = with_events_at h events time;
      is_next = refl;
      any_moment = written_leaves d.view g.met.D.Disk.only_now (AppendsTo dig events time) (λ _ w next. AppendsTo dig
          events time w next) dig r.store t.store r.root t.root (Ok tt) h (with_events_at h events time) served it
          (inr keeps) served.keeps.named;
      told = written_tells d.view g.met.D.Disk.only_now (AppendsTo dig events time) (λ _ w next. AppendsTo dig events
          time w next) dig r.store t.store r.root t.root (Ok tt) h (with_events_at h events time) served it (inr keeps)
          served.keeps.named;
      done = (own, next_served);
      refused = tt;
      machine = λ whole. tt;
    }

pub returns-in-Ok-clause-written : goal.returns-in-Ok-clause-written
returns-in-Ok-clause-written g c = λ ps over.
    let it = c.in-Ok.ensures.written ps over in
    let r = c.args.self.now.recorded.kept in
    answered_so g.D.Disk.view g.met.D.Disk.only_now _ (IsThreadOfNext g.H.Hasher.dig c.args.events.now c.args.time)
    r.store c.add_step.new.self.kept.store r.root c.add_step.new.self.kept.root (Ok tt) (Ok c.head.result) ps it (
      (c.head.ensures.value ∙ ap (λ (r : RootRecord). thread_at r.name r.head) it.done.1, it.done.0),
      it.done.1,
      it.done.2,
    ) tt

pub returns-in-Err-clause-answer : goal.returns-in-Err-clause-answer
returns-in-Err-clause-answer g c = λ ps list.
    let s = c.args.self.now in
    let r = s.recorded.kept.root in
    let events = c.args.events.now in
    let dig = g.H.Hasher.dig in
    let next : Next Head → Found (Result Thread Refusal) = λ next. Is (Ok (thread_at r.name next.value)) in
    let whole : Found (Result Thread Refusal) = appended dig ps r.head (Events events) r.archive c.args.time >>= next in
    subst (λ (f : Found (Result Thread Refusal)). IsRefusalFound c.in-Err.refusal f)
    (sym (thread_found dig ps r.name r.head s.is_broken r.time events c.args.time r.archive
    (sym (sym c.in_default.is ∙ c.append_refusal.ensures.answer))))
    (fault_page c.in-Err.refusal whole c.in-Err.ensures.answers
    (page_on c.in-Err.refusal (appended dig ps r.head (Events events) r.archive c.args.time) next
    (c.in-Err.ensures.answer ps list)))

pub returns-in-Err-clause-steps : goal.returns-in-Err-clause-steps
returns-in-Err-clause-steps g c = λ h served.
    let d = g.D.Disk in
    let r = c.args.self.now.recorded.kept in
    let t = c.add_step.new.self.kept in
    let events = c.args.events.now in
    let time = c.args.time in
    let dig = g.H.Hasher.dig in
    let it = c.in-Err.ensures.written served.pages served.rests in
    let either = ⊎_elim (λ same. inl same)
    (λ to. inr (next_kept g (goal.at.returns-in-Err-clause-steps g c).After-add_step h served it.next to)) it.is_next in
    let still : IsSameStore d.view r.store t.store → StoreServes dig d.view t.store t.root h =
    λ same. subst (λ q. StoreServes dig d.view t.store q h) (sym c.in-Err.ensures.kept)
    (read_serves d.view g.met.D.Disk.only_now dig r.store t.store r.root h same served) in
    record {
      next = with_events_at h events time;
      is_next = refl;
      any_moment = written_leaves d.view g.met.D.Disk.only_now (AppendsTo dig events time) (λ _ w next. AppendsTo dig
          events time w next) dig r.store t.store r.root t.root (Err c.in-Err.refusal) h (with_events_at h events time)
          served it either served.keeps.named;
      told = written_tells d.view g.met.D.Disk.only_now (AppendsTo dig events time) (λ _ w next. AppendsTo dig events
          time w next) dig r.store t.store r.root t.root (Err c.in-Err.refusal) h (with_events_at h events time) served
          it either served.keeps.named;
      done = tt;
      refused = ⊎_elim (λ fault. inl fault)
          (λ same. inr (still same, read_leaves d.view g.met.D.Disk.only_now dig r.store t.store r.root h same served))
          c.in-Err.ensures.same;
      machine = λ whole.
          answers_fault dig h (Append events time) (λ (a : Thread). OfThread a) (λ k. StoreServes dig d.view t.store
          t.root k) c.in-Err.refusal c.in-Err.ensures.answers (λ bad. c.in-Err.ensures.good bad h served)
          (⊎_elim (λ fault. inl fault) (λ same. inr (still same)) c.in-Err.ensures.same);
    }

pub returns-in-Err-clause-written : goal.returns-in-Err-clause-written
returns-in-Err-clause-written g c = λ ps over.
    let it = c.in-Err.ensures.written ps over in
    answered_so g.D.Disk.view g.met.D.Disk.only_now _ (IsThreadOfNext g.H.Hasher.dig c.args.events.now c.args.time)
    _ _ _ _ (Err c.in-Err.refusal) (Err c.in-Err.refusal) ps it tt it.refused

pub returns-in-Some-clause-written : goal.returns-in-Some-clause-written
returns-in-Some-clause-written g c = λ ps over.
    let d = g.D.Disk in
    let r = c.args.self.now.recorded.kept in
    let dig = g.H.Hasher.dig in
    nothing_written d.view g.met.D.Disk.only_now (AppendsTo dig c.args.events.now c.args.time)
    (IsThreadOfNext dig c.args.events.now c.args.time) r.store r.store r.root r.root (Err c.in-Some.refusal) ps
    (is_same_itself d.view r.store) over refl tt
