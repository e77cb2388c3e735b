-- What becomes of a message, in pages that keep a history whole.
use Rattle.std.proofs.Common.{◌≡◌, ◌≢◌, ℕ, ◌^◌, ◌<◌, ◌≤◌, List, length, refl, ap, sym, ◌∙◌, subst, arith, Bool, false}
use Rattle.std.specs.Prelude.{Option, Some, None, Result, Ok, option_and_then, if◌then◌else◌, nat_le, nat_lt}
use Rattle.std.proofs.lemmas.Bool.{le-ltb}
use Rattle.tw_base.specs.declared.history.thread.Entry.{Entry}
use Rattle.tw_base.specs.declared.history.thread.Key.{Key}
use Rattle.tw_base.specs.declared.history.thread.Thread.{Thread}
use Rattle.tw_base.specs.declared.kinds.limits.TheConstants.{LAST_STEP}
use Rattle.tw_base.specs.history.Asking.{entry_with}
use Rattle.tw_base.specs.history.Auth.{auth}
use Rattle.tw_base.specs.history.Entries.{key_of, thread_key}
use Rattle.tw_base.specs.history.History.{History, entry_at, step_at, thread_of, times}
use Rattle.tw_base.specs.history.Limits.{IsThread, IsTimeWithinLimits}
use Rattle.tw_base.specs.history.Sound.{IsSound}
use Rattle.tw_base.specs.history.Tree.{entries, tree}
use Rattle.tw_base.specs.kinds.Lists.{In}
use Rattle.tw_base.proofs.lemmas.history.Members.{without-each}
use Rattle.tw_base.proofs.lemmas.history.Trees.{IsArchived, tree-archived}
use Rattle.tw_base.proofs.lemmas.kinds.DigestBytes.{IsDigest}
use Rattle.tw_base.proofs.lemmas.kinds.ListLemmas.{Each-in}
use Rattle.tw_chain.proofs.Completeness.{from_1_of_entry}
use Rattle.tw_disk.specs.Found.{Found, ◌>>=◌}
use Rattle.tw_disk.specs.Found.Found.{Is, Bad}
use Rattle.tw_disk.specs.Image.{Image}
use Rattle.tw_disk.proofs.FoundLaws.{is_on}
use Rattle.tw_msg.specs.declared.message.Message.{Message}
use Rattle.tw_msg.specs.Messages.{IsLinked}
use Rattle.tw_rbtree.specs.declared.fault.TreeFault.{TreeFault}
use Rattle.tw_rbtree.specs.Answers.{insert_at}
use Rattle.tw_rbtree.proofs.Fullness.{insert-finds}
use Rattle.tw_rbtree.proofs.Latest.{latest}
use Rattle.tw_rbtree.proofs.RootWays.{before-found, with-found}
use Rattle.tw_rbtree.proofs.StandingLaws.{stands-ranges}
use Rattle.tw_archive.specs.declared.judgement.Judgement.{Judgement}
use Rattle.tw_archive.specs.declared.judgement.Judgement.TheVariants.{Known, Forked, Stale, BadLink, Accept}
use Rattle.tw_archive.specs.Archives.{MayArchive}
use Rattle.tw_archive.specs.Judging.{IsJudgementFor, found_judgement, judged_message}
use Rattle.tw_archive.proofs.Archiving.{entry_at-archived}
use Rattle.tw_archive.proofs.Causes.{judged-accepted, judged-known}
use Rattle.tw_archive.proofs.Judged.{judgement-found, last-found}
use Rattle.tw_archive.proofs.Peers.{IsLatest, each-of}
use Rattle.tw_archive.proofs.SoundNext.{same-length}
use Rattle.tw_skiplist.proofs.KeptReadings.{step_found}
use Rattle.tw_skiplist.specs.Readings.{found_step}
use Rattle.tw_service.specs.declared.receiving.Reception.TheVariants as becomes
use Rattle.tw_base.specs.declared.history.refusal.Refusal.{Refusal}
use Rattle.tw_base.specs.declared.history.refusal.Refusal.TheVariants as refused
use Rattle.tw_base.specs.declared.history.refusal.Refusal.TheVariants.{Full, ClockBack}
use Rattle.tw_answers.specs.declared.root.RootRecord.{RootRecord}
use Rattle.tw_service.specs.Finds.{found_receipt, found_reception, found_room, receipt_of, room_in}
use Rattle.tw_answers.specs.Limits.{archive_refusal, clock_refusal, full_refusal}
use Rattle.tw_answers.proofs.TableAnswers.{Of, of_if, of_or, of_some}
use Rattle.tw_service.specs.Receiving.{TellsOfMessage, reception, refuse_or}
use Rattle.tw_service.specs.Stands.{KeepsWhole, greatest_time}
use Rattle.tw_service.proofs.GreatestTimes.{allowed}
use Rattle.tw_service.proofs.NextHistories.{few-received}
use Rattle.tw_service.proofs.WholePages.{tree_stands}

-- ---- what a reception tells of the judgement

-- for want of a further step
abbrev IsOfStep : Refusal → Type 0
IsOfStep Full = Unit {0}
IsOfStep (ClockBack last given) = Unit {0}
IsOfStep _ = ⊥

of_clock : (clock time : Option ℕ) → Of IsOfStep (clock_refusal clock time)
of_clock (Some last) (Some given) = of_if IsOfStep (nat_lt given last) (Some (ClockBack last given)) None tt tt
of_clock (Some last) None = tt
of_clock None time = tt

of_step : (steps : ℕ) (clock time : Option ℕ) → Of IsOfStep (archive_refusal steps clock time)
unfolding archive_refusal
of_step steps clock time = of_or IsOfStep (full_refusal steps) (clock_refusal clock time)
    (of_if IsOfStep (nat_le LAST_STEP steps) (Some Full) None tt tt) (of_clock clock time)

module _ (steps : ℕ) (clock time : Option ℕ) where
  none_refused : (o : Option Refusal) → refuse_or o becomes.Archive ≡ becomes.Archive → o ≡ None
  none_refused None is = refl
  none_refused (Some r) is = cc

  not_known : (o : Option Refusal) (archived : ℕ) → refuse_or o becomes.Archive ≡ becomes.Known archived → ⊥
  not_known None archived is = cc
  not_known (Some r) archived is = cc

  which_refused : (o : Option Refusal) (r : Refusal) → refuse_or o becomes.Archive ≡ becomes.Refuse r → Some r ≡ o
  which_refused None r is = cc
  which_refused (Some q) r is = let same : q ≡ r = cc in ap (λ (x : Refusal). Some x) (sym same)

  pub archive-accepts : (j : Judgement) → reception steps clock time j ≡ becomes.Archive → (j ≡ Accept)
      × (archive_refusal steps clock time ≡ None)
  unfolding reception
  archive-accepts (Known archived) is = cc
  archive-accepts (Forked step kept offered) is = cc
  archive-accepts (Stale last) is = cc
  archive-accepts (BadLink last kept) is = cc
  archive-accepts Accept is = (refl, none_refused (archive_refusal steps clock time) is)

  pub answer-knows : (j : Judgement) (archived : ℕ) → reception steps clock time j ≡ becomes.Known archived
      → j ≡ Known archived
  unfolding reception
  answer-knows (Known one) archived is = let same : one ≡ archived = cc in ap (λ (k : ℕ). Known k) same
  answer-knows (Forked step kept offered) archived is = cc
  answer-knows (Stale last) archived is = cc
  answer-knows (BadLink last kept) archived is = cc
  answer-knows Accept archived is = absurd (not_known (archive_refusal steps clock time) archived is)

  -- what a refusal tells of the message
  module _ (dig : List ℕ → List ℕ) (m : Message) where
    step-tells : (r : Refusal) → IsOfStep r → Some r ≡ archive_refusal steps clock time → TellsOfMessage dig steps clock
        time m r
    step-tells Full of is = sym is
    step-tells (ClockBack last given) of is = sym is
    step-tells _ of is = absurd of

    pub refuse-tells : (j : Judgement) (r : Refusal) → IsJudgementFor dig m j → reception steps clock time j
        ≡ becomes.Refuse r → TellsOfMessage dig steps clock time m r
    unfolding reception
    refuse-tells (Known archived) r told is = cc
    refuse-tells (Forked step kept offered) r told is = let same : refused.Forked step kept offered ≡ r = cc in
        subst (TellsOfMessage dig steps clock time m) same told
    refuse-tells (Stale last) r told is = let same : refused.Stale last ≡ r = cc in
        subst (TellsOfMessage dig steps clock time m) same told
    refuse-tells (BadLink last kept) r told is = let same : refused.BadLink last kept ≡ r = cc in
        subst (TellsOfMessage dig steps clock time m) same told
    refuse-tells Accept r told is = let row = which_refused (archive_refusal steps clock time) r is in
        step-tells r (of_some IsOfStep _ r row (of_step steps clock time)) row

-- the thread of an entry is the one that its step received
entry-thread : (h : History) (k : ℕ) (e : Entry) → entry_at h k ≡ Some e → thread_of (step_at h k) ≡ Some e.thread
entry-thread h k e is = by (thread_of (step_at h k)) is
  where
    by : (o : Option Thread) → option_and_then (λ t. Some (record { thread = t; archived = k })) o ≡ Some e
        → o ≡ Some e.thread
    by None found = cc
    by (Some t) found =
        let made : Entry = record { thread = t; archived = k } in
        let one : made ≡ e = cc in ap (λ (x : Entry). Some x.thread) one

-- a thread that is known was received by the step that is told
pub known_step : (dig : List ℕ → List ℕ) (h : History) (m : Message) (archived : ℕ)
    → judged_message dig (entries (tree h (length h.steps))) m ≡ Known archived
    → (1 ≤ archived) × (archived ≤ length h.steps) × (thread_of (step_at h archived) ≡ Some m.thread)
known_step dig h m archived is =
    let k = judged-known dig (entries (tree h (length h.steps))) m archived is in
    let at = Each-in (IsArchived h (length h.steps)) (entries (tree h (length h.steps))) k.0
    (tree-archived h (length h.steps)) k.1 in
    let same : at.0 ≡ archived = sym (entry_at-archived h at.0 k.0 at.2) ∙ k.3 in
    let from = from_1_of_entry h at.0 k.0 at.2 in (
      omega (arith, same, from),
      omega (arith, same, at.1),
      subst (λ (i : ℕ). thread_of (step_at h i) ≡ Some m.thread) same (entry-thread h at.0 k.0 at.2
          ∙ ap (λ (t : Thread). Some t) k.2),
    )

module _ (dig : List ℕ → List ℕ) (ps : Image) (h : History) (r : RootRecord) (whole : KeepsWhole dig ps h r)
    (m : Message) where
  abbrev pub es : List Entry
  es = entries (tree h (length h.steps))

  latest_of : (e : Entry) → In e es → e.thread.from ≡ m.thread.from → IsLatest m.thread.from es e
  latest_of e there same =
      let stands = tree_stands dig ps h r whole in
      latest es stands.rising (stands-ranges dig ps r.archive (tree h (length h.steps)) stands) m.thread.from e there
      same

  judgement_kept : found_judgement dig ps r.archive m ≡ Is (judged_message dig es m)
  judgement_kept =
      let stands = tree_stands dig ps h r whole in
      judgement-found dig ps r.archive es m (λ key. with-found dig ps r.archive (tree h (length h.steps)) key stands)
      latest_of
      (last-found dig ps r.archive es m.thread.from (λ key. before-found dig ps r.archive (tree h (length h.steps)) key
      stands))

  -- what becomes of the message is found in the pages as by the history's archive
  pub reception_kept : (name : List ℕ) (time : Option ℕ) → found_reception dig ps name r.head r.archive r.time m time
      ≡ Is (reception (length h.steps) (greatest_time h) time (judged_message dig es m))
  unfolding found_reception
  reception_kept name time =
      ap (λ (f : Found Judgement). f >>= (λ j. Is (reception r.head.step r.time time j))) judgement_kept
      ∙ (λ i. Is (reception (whole.steps.step i) (whole.time i) time (judged_message dig es m)))

  pub receipt_kept : (size : (text : List ℕ) → IsDigest (dig text)) (name : List ℕ) (archived : ℕ)
      → judged_message dig es m ≡ Known archived
      → found_receipt dig ps name r.head archived m.thread ≡ Is
      (Ok (receipt_of name archived (auth dig h archived) m.thread))
  unfolding found_receipt
  receipt_kept size name archived is =
      let s = known_step dig h m archived is in
      let low : archived ≤ r.head.step = omega (arith, s.1, whole.steps.step) in
      let told = step_found dig size ps h r.head whole.steps archived s.0 low in
      ap (λ (b : Bool). if b then Bad r.head.page else (found_step dig ps r.head archived
      >>= (λ info. Is (Ok (receipt_of name archived info.auth m.thread))))) (le-ltb r.head.step archived low)
      ∙ is_on (found_step dig ps r.head archived) (λ info. Is (Ok (receipt_of name archived info.auth m.thread))) told.0
      told.1
      ∙ ap (λ (a : List ℕ). Is (Ok (receipt_of name archived a m.thread))) told.2.auth

  -- a message that is accepted may be archived
  pub may_archive : (time : Option ℕ) → IsLinked m → IsThread m.thread → m.thread.from ≢ h.name → judged_message dig es
      m ≡ Accept → IsTimeWithinLimits time → clock_refusal (greatest_time h) time ≡ None
      → length h.steps < LAST_STEP → MayArchive h m.thread time
  may_archive time linked is_thread other is within clock short = record {
    short = short;
    thread = is_thread;
    other = other;
    above = (judged-accepted dig es m latest_of linked is).0;
    limit = within;
    order = allowed (times h (length h.steps)) time clock;
  }

-- where a history may archive a thread, an insert of its key finds room
module _ (dig : List ℕ → List ℕ) (ps : Image) (h : History) (r : RootRecord) (whole : KeepsWhole dig ps h r)
    (t : Thread) (time : Option ℕ) (sound : IsSound h) (may : MayArchive h t time) where
  abbrev all : List Entry
  all = entries (tree h (length h.steps))

  no_entry : entry_with all (thread_key t) ≡ None
  no_entry = without-each all (thread_key t) (each-of (λ (f : Entry). key_of f ≢ thread_key t) all never)
    where
      never : (f : Entry) → In f all → key_of f ≢ thread_key t
      never f there is =
          let less = may.above f there (ap (λ (k : Key). k.from) is) in
          let same : f.thread.step ≡ t.step = ap (λ (k : Key). k.step) is in
          omega (arith, less, same)

  few_entries : length all < 2 ^ 40
  few_entries =
      let count = same-length h sound (length h.steps) (omega arith) in
      let few = few-received h (length h.steps) in
      omega (arith, count, few, may.short)

  pub room_kept : found_room dig ps r.archive t ≡ Is tt
  unfolding found_room
  room_kept =
      let stands = tree_stands dig ps h r whole in
      ap (λ (f : Found (Result (Unit {0}) TreeFault)). f >>= room_in r.archive)
      (insert-finds dig ps r.archive (tree h (length h.steps)) (thread_key t) stands few_entries
      ∙ ap (λ (o : Option Entry). insert_at r.archive o false) no_entry)
