-- From what each call of a service ensures to a call of a run.
use Rattle.std.proofs.Common.{◌≡◌, ◌⊎◌, ◌∙◌, ℕ, List, arith, ap, refl, sym, subst, inl, inr, ⊎_elim, Bool, true, false}
use Rattle.std.proofs.lemmas.Bool.{cases_eq}
use Rattle.std.specs.Prelude.{◌↔◌, IsTrue, Result, Ok, Err, IsErr, IfErr, IfOk, IsErrAnd, OnErr, MatchOption}
use Rattle.std.specs.Prelude.{MatchResult, Option, Some, slice_index}
use Rattle.tw_base.specs.format.Formats.{Spells, SpellsNothing}
use Rattle.tw_base.specs.history.History.{History}
use Rattle.tw_disk.specs.Disk.{DiskView, LeavesOnly}
use Rattle.tw_disk.specs.Image.{Image, page_at}
use Rattle.tw_disk.proofs.Moments.{leaves_weaker}
use Rattle.tw_pages.specs.Slots.{IsTaken}
use Rattle.tw_pages.specs.Store.{Opening, OpensAs}
use Rattle.tw_pages.specs.declared.open.StoreFault.{StoreFault}
use Rattle.tw_pages.specs.declared.open.StoreFault.TheVariants.{DiskFault as DiskFailed, Taken}
use Rattle.tw_base.specs.declared.history.refusal.Refusal.{Refusal}
use Rattle.tw_base.specs.declared.history.refusal.Refusal.TheVariants.{BadPage, DiskFault, Malformed, NoMemory, Reopen}
use Rattle.tw_answers.specs.declared.root.RootRecord.{RootRecord}
use Rattle.tw_service.specs.declared.service.Service.{Service}
use Rattle.tw_msg.specs.Messages.{message_layout}
use Rattle.tw_msg.specs.declared.message.Message.{Message}
use Rattle.tw_msg.specs.declared.receipt.Receipt.{Receipt}
use Rattle.tw_service.specs.Adding.{CallSteps, Receives, ReceivesBytes}
use Rattle.tw_service.specs.Machine.{AnswersByMachine, Call, IsStepOf, NextOf, Reply}
use Rattle.tw_service.specs.Machine.Call.{Receive}
use Rattle.tw_service.specs.Machine.Reply.{OfReceipt}
use Rattle.tw_service.specs.Receiving.{RefusesNoMessage}
use Rattle.tw_service.specs.Serves.{HasSameDisk, Serves, disk_of, has_failed, head_of, name_of, record_of}
use Rattle.tw_service.specs.Stands.{StandsFor, StandsForOneOf}
use Rattle.tw_answers.specs.Limits.{append_refusal, link_refusal, order_refusal, own_refusal, thread_refusal}
use Rattle.tw_answers.specs.Limits.{top_refusal}
use Rattle.tw_base.specs.declared.history.question.Question.{Question}
use Rattle.tw_base.specs.declared.history.question.Question.TheVariants as ask
use Rattle.tw_service.specs.Questions.{question_refusal}
use Rattle.tw_service.proofs.Serving.{rest_for_good}
use Rattle.tw_laws.specs.Published.{IsReplyTo}
use Rattle.tw_pages.specs.Disks.{IsLeft}
use Rattle.tw_laws.specs.Runs.{IsCallAnswered, IsServiceOpened, replied}

-- ---- after a disk fault each table says Reopen

module _ {X : Type 0} (answer : Result X Refusal) (Else : Type 0) where
  abbrev Says : Option Refusal → Type 0
  Says table = MatchOption table Else (λ refusal. answer ≡ Err refusal)

  pub append_reopens : (broken : Bool) (steps : ℕ) (clock : Option ℕ) (events : List (List ℕ)) (time : Option ℕ)
      → Says (append_refusal broken steps clock events time) → IsTrue broken → answer ≡ Err Reopen
  unfolding append_refusal
  append_reopens true steps clock events time says failed = says
  append_reopens false steps clock events time says failed = absurd cc

  pub thread_reopens : (broken : Bool) (last since : ℕ) → Says (thread_refusal broken last since) → IsTrue broken
      → answer ≡ Err Reopen
  unfolding thread_refusal
  thread_reopens true last since says failed = says
  thread_reopens false last since says failed = absurd cc

  pub own_reopens : (broken : Bool) (own from : List ℕ) → Says (own_refusal broken own from) → IsTrue broken
      → answer ≡ Err Reopen
  unfolding own_refusal
  own_reopens true own from says failed = says
  own_reopens false own from says failed = absurd cc

  pub question_reopens : (broken : Bool) (last : ℕ) (q : Question) → Says (question_refusal broken last q)
      → IsTrue broken → answer ≡ Err Reopen
  unfolding question_refusal order_refusal link_refusal top_refusal thread_refusal
  question_reopens true last ask.Export says failed = says
  question_reopens true last _ says failed = says
  question_reopens false last q says failed = absurd cc

pub weaker : {T E : Type 0} (result : Result T E) (P Q : Type 0) → (P → Q) → OnErr result P → OnErr result Q
weaker (Ok x) P Q step is = tt
weaker (Err e) P Q step is = step is

-- of three facts the first two
pub first_two : {T E : Type 0} (result : Result T E) (A B C : Type 0) → OnErr result (A × B × C) → OnErr result (A × B)
first_two (Ok x) A B C is = tt
first_two (Err e) A B C is = (is.0, is.1)

-- ---- opening

-- an image that opens has a store
opened_taken : (o : Opening) (c : Image) → OpensAs o c → IsTaken c
opened_taken o c opens = (
  omega (arith, opens.stands.room),
  elim (cases_eq o.slot 0) [
    | inl first ↦ inl (ap (λ (k : ℕ). slice_index (page_at c k) 0) (sym first) ∙ opens.stands.gate)
    | inr other ↦ (let second : 1 ≡ o.slot = omega (arith, opens.stands.which, other) in
        inr (ap (λ (k : ℕ). slice_index (page_at c k) 0) second ∙ opens.stands.gate))
  ],
)

module _ {D H : Type 0} {g : _} {k : _} (dig : List ℕ → List ℕ) (view : D → DiskView) (disk : D) where
  pub opened : (result : Result (Service D H g k) (D × StoreFault))
      → ((c : Image) (of : List ℕ) (h : History) → (view disk).content ≡ Some c → StandsFor dig c of h
      → MatchResult result (λ s. Serves dig view s h) (λ e. e.1 ≡ DiskFailed))
      → MatchResult result (λ s. (view (disk_of s)).content ≡ (view disk).content)
      (λ e. (view e.0).content ≡ (view disk).content)
      → IfOk result (λ s. LeavesOnly (view disk) (view (disk_of s)) (view disk).may_leave)
      → IfErr result (λ e. LeavesOnly (view disk) (view e.0) (view disk).may_leave)
      → MatchResult result (λ s. IsServiceOpened dig view disk s) (λ e. IsLeft view disk e.0)
  opened (Ok s) served unchanged since left =
      record { serves = λ image of h told stands. served image of h told stands; any_moment = since }
  opened (Err e) served unchanged since left = (unchanged, left)

  -- making a service on a disk that reads as a history
  pub spared : (result : Result (Service D H g k) (D × StoreFault)) (image : Image) (of : List ℕ) (h : History)
      → (view disk).content ≡ Some image → StandsFor dig image of h
      → (IsTaken image → IsErrAnd result (λ e. (e.1 ≡ Taken) ⊎ (e.1 ≡ DiskFailed)))
      → (IsTaken image → IfErr result (λ e. ((view e.0).content ≡ Some image) × LeavesOnly (view disk) (view e.0)
      (view disk).may_leave))
      → IsErrAnd result (λ e. IsLeft view disk e.0)
  spared (Ok s) image of h told stands exact held =
      absurd (exact (opened_taken stands.stands.is.opening image stands.stands.is.opens))
  spared (Err e) image of h told stands exact held = let left =
      held (opened_taken stands.stands.is.opening image stands.stands.is.opens) in (left.0 ∙ sym told, left.1)

-- ---- calls

module _ {D H : Type 0} {g : _} {k : _} (dig : List ℕ → List ℕ) (view : D → DiskView) {T : Type 0} (call : Call)
    (reply : T → Reply) (old new : Service D H g k) where
  abbrev fails : (X : Type 0) → Refusal → Result X Refusal
  fails X why = Err why

  -- ---- answers, as replies

  answers_as : (h : History) (r : Refusal) → AnswersByMachine dig h call reply (Err r) (Serves dig view new)
      → AnswersByMachine dig h call (λ (x : Reply). x) (Err r) (Serves dig view new)
  answers_as h DiskFault a = a
  answers_as h NoMemory a = a
  answers_as h (BadPage page) a = a
  answers_as h Reopen a = a
  answers_as h _ a = a

  -- a fact of an answer is one of its reply
  done_as : (result : Result T Refusal) (P : Reply → Type 0) → IfOk result (λ value. P (reply value))
      → IfOk (replied reply result) P
  done_as (Ok x) P is = is
  done_as (Err r) P is = is

  refused_as : (result : Result T Refusal) (P Q : Refusal → Type 0) → ((r : Refusal) → P r → Q r) → IfErr result P
      → IfErr (replied reply result) Q
  refused_as (Ok x) P Q step is = is
  refused_as (Err r) P Q step is = step r is

  steps_as : (result : Result T Refusal) (h : History) → CallSteps dig view call reply old new result h
      → CallSteps dig view call (λ (x : Reply). x) old new (replied reply result) h
  steps_as result h s =
      record {
        next = s.next;
        is_next = s.is_next;
        any_moment = s.any_moment;
        told = s.told;
        done = done_as result (λ (y : Reply). IsStepOf dig h call y s.next × Serves dig view new s.next) s.done;
        refused = refused_as result _ _ (λ r is. is) s.refused;
        machine = λ whole. refused_as result _ _ (λ r is. answers_as h r is) (s.machine whole);
      }

  abbrev Remembers : Result T Refusal → Type 0
  Remembers result = IsTrue (has_failed new) ↔ (IsTrue (has_failed old) ⊎ (result ≡ Err DiskFault))

  abbrev Keeps : Result T Refusal → Type 0
  Keeps result = OnErr result ((head_of new ≡ head_of old) × (name_of new ≡ name_of old))

  abbrev LeavesUnwritten : Result T Refusal → Type 0
  LeavesUnwritten result = IfErr result (λ refusal. (refusal ≡ DiskFault) ⊎ HasSameDisk view old new)

  -- ---- a call that may add a step

  pub adds : (kind : (x : T) → IsReplyTo call (reply x)) (result : Result T Refusal)
      → ((h : History) → Serves dig view old h → CallSteps dig view call reply old new result h)
      → (IsTrue (has_failed old) → result ≡ Err Reopen) → Remembers result → Keeps result → LeavesUnwritten result
      → IsCallAnswered dig view call (replied reply result) old new
  adds kind (Ok x) steps reopen broken kept unwritten = record {
    kind = kind x;
    steps = λ h served. steps_as (Ok x) h (steps h served);
    reopen = λ failed. let no = reopen failed in absurd cc;
    broken = (
      (λ failed. ⊎_elim (λ was. inl was) (λ is. absurd cc) (broken.0 failed)),
      (λ either. ⊎_elim (λ was. broken.1 (inl was)) (λ is. absurd cc) either),
    );
    kept = tt;
    unwritten = tt;
  }
  adds kind (Err r) steps reopen broken kept unwritten = record {
    kind = tt;
    steps = λ h served. steps_as (Err r) h (steps h served);
    reopen = λ failed. to_reply (reopen failed);
    broken = (
      (λ failed. ⊎_elim (λ was. inl was) (λ is. inr (to_reply is)) (broken.0 failed)),
      (λ either. ⊎_elim (λ was. broken.1 (inl was)) (λ is. broken.1 (inr (of_reply is))) either),
    );
    kept = kept;
    unwritten = unwritten;
  }
    where
      to_reply : {q : Refusal} → fails T r ≡ fails T q → fails Reply r ≡ fails Reply q
      to_reply is = cc

      of_reply : {q : Refusal} → fails Reply r ≡ fails Reply q → fails T r ≡ fails T q
      of_reply is = cc

  -- ---- a call that only reads

  module _ (only_now : (d : D) (c : Image) → (view d).left_since (view d).moment c → (view d).may_leave c)
      (stays : (h : History) → NextOf dig call h h) (only : (h next : History) (r : Reply) → IsStepOf dig h call r next
      → next ≡ h) where
    abbrev Serves_on : Type 0
    Serves_on = (h : History) → Serves dig view old h → Serves dig view new h × LeavesOnly (view (disk_of old))
        (view (disk_of new)) (λ i. StandsFor dig i (name_of old) h)

    abbrev Is_step : Result T Refusal → Type 0
    Is_step result = has_failed old ≡ false → (h : History) → Serves dig view old h → AnswersByMachine dig h call reply
        result (Serves dig view new)

    answered : (b : Bool) → has_failed old ≡ b → (x : T) → (IsTrue (has_failed old) → Ok x ≡ Err Reopen)
        → Is_step (Ok x) → (h : History) → Serves dig view old h → IsStepOf dig h call (reply x) h
    answered true is x reopen machine h served = let no = reopen (subst (λ b. IsTrue b) (sym is) refl) in absurd cc
    answered false is x reopen machine h served =
        let a = machine is h served in
        subst (λ (n : History). IsStepOf dig h call (reply x) n) (only h a.0 (reply x) a.1) a.1

    done_by : (result : Result T Refusal) → (IsTrue (has_failed old) → result ≡ Err Reopen) → Is_step result
        → (h : History) → Serves dig view old h → Serves dig view new h
        → IfOk result (λ value. IsStepOf dig h call (reply value) h × Serves dig view new h)
    done_by (Ok x) reopen machine h served on = (answered (has_failed old) refl x reopen machine h served, on)
    done_by (Err r) reopen machine h served on = tt

    machine_by : (result : Result T Refusal) (h : History) → AnswersByMachine dig h call reply result
        (Serves dig view new)
        → IfErr result (λ refusal. AnswersByMachine dig h call reply (Err refusal) (Serves dig view new))
    machine_by (Ok x) h answers = tt
    machine_by (Err r) h answers = answers

    -- what holds after each answer holds after a refusal but a disk fault
    refused_by : (result : Result T Refusal) (P : Type 0) → P → IfErr result (λ refusal. (refusal ≡ DiskFault) ⊎ P)
    refused_by (Ok x) P is = tt
    refused_by (Err r) P is = inr is

    read_steps : (result : Result T Refusal) → (IsTrue (has_failed old) → result ≡ Err Reopen) → Is_step result
        → Serves_on → record_of new ≡ record_of old
        → (h : History) → Serves dig view old h → CallSteps dig view call reply old new result h
    read_steps result reopen machine same kept h served =
        let on = same h served in
        let rest = rest_for_good view only_now dig new.recorded.kept.store new.recorded.kept.root h on.0 in
        record {
          next = h;
          is_next = stays h;
          any_moment = leaves_weaker (view (disk_of old)) (view (disk_of new)) (λ i. StandsFor dig i (name_of old) h)
              (StandsForOneOf dig (name_of old) h h) (λ c s. inl s) on.1;
          told = record {
            image = rest.image;
            told = rest.told;
            has = inl (subst (λ (r : RootRecord). StandsFor dig rest.image r.name h) kept rest.has);
          };
          done = done_by result reopen machine h served on.0;
          refused = refused_by result _ on;
          machine = λ whole. machine_by result h (machine whole h served);
        }

    kept_by : (result : Result T Refusal) → record_of new ≡ record_of old → Keeps result
    kept_by (Ok x) kept = tt
    kept_by (Err r) kept = (ap (λ (r : RootRecord). r.head) kept, ap (λ (r : RootRecord). r.name) kept)

    pub reads : (kind : (x : T) → IsReplyTo call (reply x)) (result : Result T Refusal) → (IsTrue (has_failed old)
        → result ≡ Err Reopen) → Is_step result → Serves_on → record_of new ≡ record_of old → HasSameDisk view old new
        → Remembers result
        → IsCallAnswered dig view call (replied reply result) old new
    reads kind result reopen machine same kept unwritten broken =
        adds kind result (read_steps result reopen machine same kept) reopen broken (kept_by result kept)
        (refused_by result _ unwritten)

-- ---- receiving

is_refused : (result : Result Receipt Refusal) (refusal : Refusal) → result ≡ Err refusal → IsErr result
is_refused (Ok receipt) refusal is = absurd cc
is_refused (Err r) refusal is = refl

bytes_refused : (broken : Bool) (bytes : List ℕ) (result : Result Receipt Refusal) → RefusesNoMessage broken bytes
    result → IsErr result
bytes_refused true bytes result is = is_refused result Reopen is
bytes_refused false bytes result (inl is) = is_refused result NoMemory is
bytes_refused false bytes result (inr is) = is_refused result (Malformed is.0) is.1

module _ {D H : Type 0} {g : _} {k : _} (dig : List ℕ → List ℕ) (view : D → DiskView) (bytes : List ℕ)
    (time : Option ℕ) (old new : Service D H g k) (result : Result Receipt Refusal)
    (of : ReceivesBytes dig view bytes time old new result) where
  -- bytes that are no message are refused
  pub refuses_bytes : SpellsNothing message_layout bytes → IsErr result × (new ≡ old)
  refuses_bytes none = let no = of.malformed none in (bytes_refused (has_failed old) bytes result no.0, no.1)

  received_kept : OnErr result (record_of new ≡ record_of old) → OnErr result ((head_of new ≡ head_of old)
      × (name_of new ≡ name_of old))
  received_kept kept =
      weaker result _ _ (λ same. (ap (λ (r : RootRecord). r.head) same, ap (λ (r : RootRecord). r.name) same)) kept

  abbrev Answers : Message → Type 0
  Answers m = IsCallAnswered dig view (Receive m time) (replied (λ (r : Receipt). OfReceipt r) result) old new

  received_as : (m : Message) → Receives dig view m time old new result → Answers m
  received_as m a =
      adds dig view (Receive m time) (λ (r : Receipt). OfReceipt r) old new (λ r. tt) result a.steps
      (own_reopens result _ (has_failed old) (name_of old) m.thread.from a.table) a.broken (received_kept a.kept)
      a.unwritten

  pub received : (m : Message) → Spells message_layout bytes m → ((result ≡ Err NoMemory) × (new ≡ old)) ⊎ Answers m
  received m spells = ⊎_elim (λ none. inl (none.1, none.2)) (λ is. inr (received_as m is)) (of.message m spells)
