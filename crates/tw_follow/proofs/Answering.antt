-- What the calls of a follower answer.
use Rattle.std.proofs.Common.{◌≡◌, ◌≢◌, ℕ, ◌≤◌, ◌<◌, ◌^◌, List, Bool, true, false, length, refl, ap, sym, ◌∙◌, subst}
use Rattle.std.proofs.Common.{arith, inl, inr, ◌⊎◌, ⊎_elim}
use Rattle.std.specs.Prelude.{◌↔◌, IfErr, IfOk, IsTrue, MatchResult, OnOk, Result, Ok, Err, Some}
use Rattle.tw_base.specs.declared.history.thread.Thread.{Thread}
use Rattle.tw_base.specs.history.Auth.{auth}
use Rattle.tw_base.specs.history.History.{History}
use Rattle.tw_base.specs.history.Limits.{IsThread}
use Rattle.tw_base.specs.kinds.Faults.{Rose}
use Rattle.tw_disk.specs.Answers.{AnswersAs, IsShared, is_of_disk}
use Rattle.tw_disk.specs.Disk.{DiskView, LeavesOnly, Reads}
use Rattle.tw_disk.specs.Image.{Image}
use Rattle.tw_disk.proofs.FoundLaws.{same_found}
use Rattle.tw_msg.specs.HistoryMessages.{MakesMessage, thread_at_step}
use Rattle.tw_pages.specs.Same.{IsSameStore, store_count}
use Rattle.tw_pages.specs.SameSteps.{is_same_itself}
use Rattle.tw_follow.specs.declared.follower.Follower.{Follower}
use Rattle.tw_follow.specs.declared.judging.Offered.{Offered}
use Rattle.tw_follow.specs.declared.judging.Offered.TheVariants.{Known, Moves}
use Rattle.tw_base.specs.declared.history.refusal.FollowRefusal.{FollowRefusal}
use Rattle.tw_base.specs.declared.history.refusal.FollowRefusal.TheVariants.{Malformed, BadPage, DiskFault, Reopen}
use Rattle.tw_base.specs.declared.history.refusal.FollowRefusal.TheVariants.{NoMemory}
use Rattle.tw_follow.specs.declared.root.RootRecord.{RootRecord}
use Rattle.tw_follow.specs.Calls.{Offers, TellsHeads}
use Rattle.tw_follow.specs.Writing.{IsAnsweredTo, IsMovedBy, moved_to}
use Rattle.tw_follow.specs.Follows.{Follows, HasSameDisk, IsOver, disk_of, has_failed, head_of, pages_of, record_of}
use Rattle.tw_follow.specs.HeadLists.{HasHead, Kept, RiseTo, with_head}
use Rattle.tw_follow.specs.HeadPages.{found_heads}
use Rattle.tw_follow.specs.Offers.{AnswersOffer, JudgesOffer, answer_to, judged_offer}
use Rattle.tw_follow.specs.Refusals.{IsFollowerFault, follower_refusals}
use Rattle.tw_follow.specs.Runs.{MovesBy}
use Rattle.tw_follow.specs.Stands.{KeepsList, StandsFor, StandsForOneOf, root_kind}
use Rattle.tw_pages.specs.Commits.{Commits}
use Rattle.tw_pages.specs.Records.{IsOneOf, IsWritten, Written, written_record}
use Rattle.tw_pages.specs.Rests.{RestsWith}
use Rattle.tw_pages.specs.States.{ServesState}
use Rattle.tw_pages.proofs.StagedRecords.{leaves_before, reads_before}
use Rattle.tw_pages.proofs.States.{leaves_states, reads_states}
use Rattle.tw_pages.proofs.Written.{still_rests, told_list}
use Rattle.tw_follow.proofs.Growing.{grown}
use Rattle.tw_follow.proofs.Following.{read_leaves, rest_head, same_leaves, still_keeps}
use Rattle.tw_follow.proofs.Moved.{none_leaves, none_reads}
use Rattle.tw_follow.proofs.Offering.{IsJudged, IsMoved, judges-once, judges-table, moved-is, one-message, own-judged}
use Rattle.tw_follow.proofs.Offering.{sort_of}

-- ---- refusals

refusal_in : {T : Type 0} → FollowRefusal → Result T FollowRefusal → FollowRefusal
refusal_in other (Ok x) = other
refusal_in other (Err refusal) = refusal

pub same_refusal : (T : Type 0) (r s : FollowRefusal) → ◌≡◌ {A = Result T FollowRefusal} (Err r) (Err s) → r ≡ s
unfolding refusal_in
same_refusal T r s e = ap (λ (x : Result T FollowRefusal). refusal_in r x) e

pub never_ok : (T : Type 0) (x : T) (r : FollowRefusal) → ◌≡◌ {A = Result T FollowRefusal} (Ok x) (Err r) → ⊥
never_ok T x r e = cc

pub reopen_is_none : Reopen ≢ DiskFault
reopen_is_none e = cc

pub memory_is_none : NoMemory ≢ DiskFault
memory_is_none e = cc

pub malformed_is_none : (place : ℕ) → Malformed place ≢ DiskFault
malformed_is_none place e = cc

pub not_both : (b : Bool) → b ≡ false → IsTrue b → ⊥
not_both true e is = cc
not_both false e is = cc

shared_fault : (r : FollowRefusal) → IsShared (follower_refusals r) → IsFollowerFault r
shared_fault (BadPage page) s = tt
shared_fault DiskFault s = tt
shared_fault NoMemory s = tt
shared_fault r s = absurd s

no_fall : (n : ℕ) → n ≤ n
no_fall n = omega arith

module _ {D H : Type 0} {g : _} {k : _} (view : D → DiskView) (only_now : (d : D) (c : Image)
    → (view d).left_since (view d).moment c → (view d).may_leave c) (dig : List ℕ → List ℕ) where
  -- ---- a call that makes nothing

  module _ (f : Follower D H g k) where
    still : (kept : Kept) → Follows dig view f kept → LeavesOnly (view (disk_of f)) (view (disk_of f))
        (λ i. StandsFor dig i kept)
    still kept follows = read_leaves view only_now dig f.recorded.store f.recorded.store f.recorded.root kept
        (is_same_itself view f.recorded.store) follows

    still_one_of : (kept next : Kept) → Follows dig view f kept → LeavesOnly (view (disk_of f)) (view (disk_of f))
        (StandsForOneOf dig kept next)
    still_one_of kept next follows = none_leaves view only_now dig f.recorded.store f.recorded.store f.recorded.root
        kept next (is_same_itself view f.recorded.store) follows

    reads : (kept next : Kept) → Follows dig view f kept → Reads (view (disk_of f)) (StandsForOneOf dig kept next)
    reads kept next follows = none_reads view only_now dig f.recorded.store f.recorded.store f.recorded.root kept next
        (is_same_itself view f.recorded.store) follows

    -- whatever its pages keep, it opens as before
    as_before : (ps : Image) → IsOver dig view f ps → LeavesOnly (view (disk_of f)) (view (disk_of f))
        (IsWritten (root_kind dig) (written_record (record_of f) ps))
    as_before ps over = same_leaves view only_now dig f.recorded.store f.recorded.store f.recorded.root ps
        (is_same_itself view f.recorded.store) over

    either_before : (ps : Image) → IsOver dig view f ps → LeavesOnly (view (disk_of f)) (view (disk_of f))
        (IsOneOf (root_kind dig) (written_record (record_of f) ps) (written_record (record_of f) ps))
    either_before ps over = leaves_before view only_now (root_kind dig) f.recorded.store f.recorded.store
        (written_record f.recorded.root ps) (written_record f.recorded.root ps) (is_same_itself view f.recorded.store)
        over

    reads_either : (ps : Image) → IsOver dig view f ps → Reads (view (disk_of f))
        (IsOneOf (root_kind dig) (written_record (record_of f) ps) (written_record (record_of f) ps))
    reads_either ps over = reads_before view only_now (root_kind dig) f.recorded.store f.recorded.store
        (written_record f.recorded.root ps) (written_record f.recorded.root ps) (is_same_itself view f.recorded.store)
        over

    -- a refused offer
    pub refused_offer : (bytes : List ℕ) (r : FollowRefusal) → AnswersOffer dig (has_failed f) (head_of f) bytes (Err r)
        → r ≢ DiskFault → Offers dig view bytes f f (Err r)
    refused_offer bytes r table other = record {
      table = table;
      steps = λ kept follows. record {
        next = kept;
        goes = inl (tt, refl);
        any_moment = still_one_of kept kept follows;
        told = reads kept kept follows;
        done = tt;
        refused = inr (follows, still kept follows);
      };
      written = λ ps over. record {
        next = written_record (record_of f) ps;
        is_next = inl refl;
        any_moment = either_before ps over;
        told = reads_either ps over;
        done = tt;
        refused = inr (over, as_before ps over);
      };
      head = tt;
      same = tt;
      kept = refl;
      unwritten = inr (is_same_itself view f.recorded.store);
      broken = (
        λ failed. inl failed,
        λ either. ⊎_elim (λ failed. failed) (λ e. absurd (other (same_refusal Thread r DiskFault e))) either,
      );
      fault = λ e. absurd (other (same_refusal Thread r DiskFault e));
      later = no_fall ((view (disk_of f)).faults);
    }

    -- an offer of the head itself
    pub known_offer : (bytes : List ℕ) → has_failed f ≡ false → JudgesOffer dig (head_of f) bytes (Ok Known)
        → Offers dig view bytes f f (Ok (head_of f))
    known_offer bytes whole judges = record {
      table = subst (λ (b : Bool). AnswersOffer dig b (head_of f) bytes (Ok (head_of f))) (sym whole)
          (Known, judges, refl);
      steps = λ kept follows.
          let is = rest_head view only_now dig f.recorded.store f.recorded.root kept follows in
          record {
            next = kept;
            goes = inl (tt, refl);
            any_moment = still_one_of kept kept follows;
            told = reads kept kept follows;
            done = (
              inl ((subst (λ (t : Thread). JudgesOffer dig t bytes (Ok Known)) (sym is) judges, sym is), refl),
              follows,
            );
            refused = tt;
          };
      written = λ ps over. record {
        next = written_record (record_of f) ps;
        is_next = inl refl;
        any_moment = either_before ps over;
        told = reads_either ps over;
        done = ((Known, judges, refl, refl), refl, over);
        refused = tt;
      };
      head = (refl, refl);
      same = λ e. (refl, is_same_itself view f.recorded.store);
      kept = tt;
      unwritten = tt;
      broken = (
        λ failed. inl failed,
        λ either. ⊎_elim (λ failed. failed) (λ e. absurd (never_ok Thread (head_of f) DiskFault e)) either,
      );
      fault = λ e. absurd (never_ok Thread (head_of f) DiskFault e);
      later = no_fall ((view (disk_of f)).faults);
    }

    -- the heads aren't told after a disk fault
    pub reopened_heads : has_failed f ≡ true → TellsHeads dig view f f (Err Reopen)
    reopened_heads failed = record {
      reopen = (λ e. failed_is failed, λ is. refl);
      faults = inl refl;
      answer = λ whole. absurd (not_both (has_failed f) whole (failed_is failed));
      rises = tt;
      heads = tt;
      still = λ kept follows. (follows, still kept follows);
      unwritten = is_same_itself view f.recorded.store;
      record_ = refl;
      broken = (
        λ is. inl is,
        λ either. ⊎_elim (λ is. is) (λ e. absurd (reopen_is_none (same_refusal (List Thread) Reopen DiskFault e)))
            either,
      );
      fault = λ e. absurd (reopen_is_none (same_refusal (List Thread) Reopen DiskFault e));
      later = no_fall ((view (disk_of f)).faults);
    }
      where
        failed_is : has_failed f ≡ true → IsTrue (has_failed f)
        failed_is e = e

  -- ---- a call that moves the head

  module _ (old new : Follower D H g k) (bytes : List ℕ) (head : Thread) (whole : has_failed old ≡ false)
      (judges : JudgesOffer dig (head_of old) bytes (Ok (Moves head)))
      (thread_in : IsThread head) (later : (view (disk_of old)).faults ≤ (view (disk_of new)).faults) where
    -- what is written, whatever the pages keep
    abbrev pub IsWrittenBy : (Done : Written RootRecord → Type 0) → Type 0
    IsWrittenBy Done = (ps : Image) → IsOver dig view old ps
        → LeavesOnly (view (disk_of old)) (view (disk_of new))
        (IsOneOf (root_kind dig) (written_record (record_of old) ps) (moved_to (written_record (record_of old) ps)
        head))
        × Reads (view (disk_of new)) (IsOneOf (root_kind dig) (written_record (record_of old) ps)
        (moved_to (written_record (record_of old) ps) head))
        × Done (moved_to (written_record (record_of old) ps) head)

    is : IsMoved dig (head_of old) judges.0 head
    is = moved-is dig (head_of old) judges.0 head judges.2

    -- where a list was kept, the list with the head is kept then
    abbrev next_of : (kept : Kept) → Follows dig view old kept → Written RootRecord
    next_of kept follows = moved_to (written_record (record_of old) follows.pages) head

    keeps_next : (kept : Kept) (follows : Follows dig view old kept) → KeepsList (next_of kept follows).pages
        (next_of kept follows).root (with_head kept head)
    keeps_next kept follows =
        let may = follows.rests.has.has.may in
        let count = ap (λ (ps : Image). length ps) follows.rests.has.pages_are in
        let from = ap (λ (t : Thread). t.from) is.thread_is ∙ is.from in
        let above : (head_of old).step < head.step = omega (arith, ap (λ (t : Thread). t.step) is.thread_is, is.above)
        in
        let few = may.fits.few_pages in
        grown follows.pages (record_of old) kept follows.keeps may.fits.page head from above thread_in
        (let short : head.step < 2 ^ 40 = omega (arith, thread_in.2) in omega (arith, count, few, above, short))

    leaves_list : (Done : Written RootRecord → Type 0) → IsWrittenBy Done → (kept : Kept) → Follows dig view old kept
        → LeavesOnly (view (disk_of old)) (view (disk_of new)) (StandsForOneOf dig kept (with_head kept head))
    leaves_list Done writes kept follows =
        leaves_states (root_kind dig) KeepsList (written_record (record_of old) follows.pages) (next_of kept follows)
        kept (with_head kept head) follows.keeps (keeps_next kept follows)
        (view (disk_of old)) (view (disk_of new)) (writes follows.pages follows.rests).0

    reads_list : (Done : Written RootRecord → Type 0) → IsWrittenBy Done → (kept : Kept) → Follows dig view old kept
        → Reads (view (disk_of new)) (StandsForOneOf dig kept (with_head kept head))
    reads_list Done writes kept follows =
        reads_states (root_kind dig) KeepsList (written_record (record_of old) follows.pages) (next_of kept follows)
        kept (with_head kept head) follows.keeps (keeps_next kept follows)
        (view (disk_of new)) (writes follows.pages follows.rests).1

    follows_next : IsWrittenBy (λ w. (record_of new ≡ w.root) × RestsWith view (root_kind dig) new.recorded.store w)
        → (kept : Kept) → Follows dig view old kept → Follows dig view new (with_head kept head)
    follows_next writes kept follows =
        let done = (writes follows.pages follows.rests).2 in
        record {
          pages = (next_of kept follows).pages;
          rests = subst (λ (r : RootRecord). RestsWith view (root_kind dig) new.recorded.store
              (written_record r (next_of kept follows).pages)) (sym done.0) done.1;
          keeps = subst (λ (r : RootRecord). KeepsList (next_of kept follows).pages r (with_head kept head))
              (sym done.0) (keeps_next kept follows);
        }

    -- whatever the pages keep, the record and pages with the head are next
    commits : (result : Result Thread FollowRefusal) (Done : Written RootRecord → Type 0) → IsWrittenBy Done
        → (ps : Image) → IsOver dig view old ps
        → IfOk result (λ thread. IsAnsweredTo dig bytes thread (written_record (record_of old) ps)
        (moved_to (written_record (record_of old) ps) head)
        × (record_of new ≡ (moved_to (written_record (record_of old) ps) head).root)
        × RestsWith view (root_kind dig) new.recorded.store (moved_to (written_record (record_of old) ps) head))
        → IfErr result (λ e. (e ≡ DiskFault) ⊎ (RestsWith view (root_kind dig) new.recorded.store
        (written_record (record_of old) ps) × LeavesOnly (view (disk_of old)) (view (disk_of new))
        (IsWritten (root_kind dig) (written_record (record_of old) ps))))
        → Commits view (root_kind dig) DiskFault (IsMovedBy dig bytes) (IsAnsweredTo dig bytes) old.recorded.store
        new.recorded.store (record_of old) (record_of new) result ps
    commits result Done writes ps over done refused = record {
      next = moved_to (written_record (record_of old) ps) head;
      is_next = inr (head, judges, refl);
      any_moment = (writes ps over).0;
      told = (writes ps over).1;
      done = done;
      refused = refused;
    }

    by : (kept : Kept) → Follows dig view old kept → MovesBy dig kept bytes judges.0 (with_head kept head)
    by kept follows =
        let same = rest_head view only_now dig old.recorded.store old.recorded.root kept follows in
        record {
          spelled = judges.1;
          moves = ap (λ (t : Thread). judged_offer dig t judges.0) same ∙ judges.2 ∙ ap (λ (t : Thread). Ok (Moves t))
              is.thread_is;
          adds = ap (λ (t : Thread). with_head kept t) is.thread_is;
        }

    pub moved_offer : (thread : Thread) → (thread ≡ head) × (head_of new ≡ head)
        → (IsTrue (has_failed new) ↔ (◌≡◌ {A = Result Thread FollowRefusal} (Ok thread) (Err DiskFault)))
        → IsWrittenBy (λ w. (record_of new ≡ w.root) × RestsWith view (root_kind dig) new.recorded.store w)
        → Offers dig view bytes old new (Ok thread)
    moved_offer thread heads broken writes = record {
      table = subst (λ (b : Bool). AnswersOffer dig b (head_of old) bytes (Ok thread)) (sym whole)
          (Moves head, judges, heads.0);
      steps = λ kept follows. record {
        next = with_head kept head;
        goes = inr (judges.0, by kept follows);
        any_moment = leaves_list (λ w. (record_of new ≡ w.root) × RestsWith view (root_kind dig) new.recorded.store w)
            writes kept follows;
        told = reads_list (λ w. (record_of new ≡ w.root) × RestsWith view (root_kind dig) new.recorded.store w) writes
            kept follows;
        done = (inr (judges.0, (by kept follows, heads.0 ∙ is.thread_is)), follows_next writes kept follows);
        refused = tt;
      };
      written = λ ps over.
          let done = (writes ps over).2 in
          commits (Ok thread) (λ w. (record_of new ≡ w.root) × RestsWith view (root_kind dig) new.recorded.store w)
          writes ps over ((Moves head, judges, heads.0, refl), done.0, done.1) tt;
      head = (heads.0 ∙ sym heads.1, ap (λ (t : Thread). t.from) (heads.0 ∙ is.thread_is) ∙ is.from);
      same = λ e. absurd (later_differs (ap (λ (t : Thread). t.step) (sym (heads.0 ∙ is.thread_is) ∙ e)));
      kept = tt;
      unwritten = tt;
      broken = (
        λ failed. absurd (never_ok Thread thread DiskFault (broken.0 failed)),
        λ either. ⊎_elim (λ failed. absurd (not_both (has_failed old) whole failed))
            (λ e. absurd (never_ok Thread thread DiskFault e)) either,
      );
      fault = λ e. absurd (never_ok Thread thread DiskFault e);
      later = later;
    }
      where
        later_differs : judges.0.thread.step ≡ (head_of old).step → ⊥
        later_differs e = omega (arith, is.above, e)

    pub stopped_offer : (r : FollowRefusal) → (r ≡ DiskFault) ⊎ (r ≡ NoMemory) → (record_of new ≡ record_of old)
        × ((r ≡ DiskFault) ⊎ HasSameDisk view old new)
        → (IsTrue (has_failed new) ↔ (◌≡◌ {A = Result Thread FollowRefusal} (Err r) (Err DiskFault)))
        → (◌≡◌ {A = Result Thread FollowRefusal} (Err r) (Err DiskFault) → Rose (view (disk_of old)).faults
        (view (disk_of new)).faults)
        → IsWrittenBy (λ w. Unit {0}) → Offers dig view bytes old new (Err r)
    stopped_offer r which kept_is broken fault writes = record {
      table = subst (λ (b : Bool). AnswersOffer dig b (head_of old) bytes (Err r)) (sym whole) (answers r which);
      steps = λ kept follows. record {
        next = with_head kept head;
        goes = inr (judges.0, by kept follows);
        any_moment = leaves_list (λ w. Unit {0}) writes kept follows;
        told = reads_list (λ w. Unit {0}) writes kept follows;
        done = tt;
        refused = ⊎_elim (λ e. inl e) (λ same. inr (
          subst (λ (x : RootRecord). ServesState (root_kind dig) KeepsList view new.recorded.store x kept)
              (sym kept_is.0)
              (still_keeps view only_now dig old.recorded.store new.recorded.store old.recorded.root kept same follows),
          read_leaves view only_now dig old.recorded.store new.recorded.store old.recorded.root kept same follows,
        )) kept_is.1;
      };
      written = λ ps over. commits (Err r) (λ w. Unit {0}) writes ps over tt
          (⊎_elim (λ e. inl e) (λ same. inr (
            still_rests view (root_kind dig) old.recorded.store new.recorded.store
                (written_record old.recorded.root ps) same over,
            same_leaves view only_now dig old.recorded.store new.recorded.store old.recorded.root ps same over,
          )) kept_is.1);
      head = tt;
      same = tt;
      kept = kept_is.0;
      unwritten = kept_is.1;
      broken = (
        λ failed. inr (broken.0 failed),
        λ either. ⊎_elim (λ failed. absurd (not_both (has_failed old) whole failed)) broken.1 either,
      );
      fault = fault;
      later = later;
    }
      where
        answers : (q : FollowRefusal) → (q ≡ DiskFault) ⊎ (q ≡ NoMemory) → AnswersOffer dig false (head_of old) bytes
            (Err q)
        answers q (inl e) = subst (λ (x : FollowRefusal). AnswersOffer dig false (head_of old) bytes (Err x)) (sym e)
            (head, judges)
        answers q (inr e) = subst (λ (x : FollowRefusal). AnswersOffer dig false (head_of old) bytes (Err x)) (sym e) tt

    pub moves_answer : (result : Result Thread FollowRefusal)
        → IfOk result (λ thread. (thread ≡ head) × (head_of new ≡ head))
        → IfErr result (λ r. (r ≡ DiskFault) ⊎ (r ≡ NoMemory))
        → IfErr result (λ r. (record_of new ≡ record_of old) × ((r ≡ DiskFault) ⊎ HasSameDisk view old new))
        → (IsTrue (has_failed new) ↔ (result ≡ Err DiskFault))
        → (result ≡ Err DiskFault → Rose (view (disk_of old)).faults (view (disk_of new)).faults)
        → IsWrittenBy (λ w. OnOk result ((record_of new ≡ w.root) × RestsWith view (root_kind dig) new.recorded.store
        w)) → Offers dig view bytes old new result
    moves_answer (Ok thread) heads answers kept_is broken fault writes = moved_offer thread heads broken writes
    moves_answer (Err r) heads answers kept_is broken fault writes = stopped_offer r answers kept_is broken fault writes

  -- ---- telling the heads

  module _ (old new : Follower D H g k) (whole : has_failed old ≡ false) (same : IsSameStore view old.recorded.store
      new.recorded.store) (count : store_count new.recorded.store ≡ store_count old.recorded.store)
      (record_is : record_of new ≡ record_of old)
      (later : (view (disk_of old)).faults ≤ (view (disk_of new)).faults) where
    kept_on : (kept : Kept) → Follows dig view old kept → Follows dig view new kept × LeavesOnly (view (disk_of old))
        (view (disk_of new)) (λ i. StandsFor dig i kept)
    kept_on kept follows = (
      subst (λ (x : RootRecord). ServesState (root_kind dig) KeepsList view new.recorded.store x kept) (sym record_is)
          (still_keeps view only_now dig old.recorded.store new.recorded.store old.recorded.root kept same follows),
      read_leaves view only_now dig old.recorded.store new.recorded.store old.recorded.root kept same follows,
    )

    pub told_heads : (heads : List Thread) → ((ps : Image) → pages_of view old ≡ Some ps → AnswersAs follower_refusals
        (λ (hs : List Thread). hs) (Ok heads) (found_heads ps (record_of old))) → RiseTo (head_of old) heads
        → has_failed new ≡ has_failed old
        → TellsHeads dig view old new (Ok heads)
    told_heads heads answer rises failed = record {
      reopen = (λ e. absurd (never_ok (List Thread) heads Reopen e), λ is. absurd (not_both (has_failed old) whole is));
      faults = tt;
      answer = λ _. answer;
      rises = rises;
      heads = λ kept follows.
          same_found heads kept.heads
          (sym (answer follows.pages (told_list view (root_kind dig) old.recorded.store
          (written_record old.recorded.root follows.pages) follows.rests old.clean)) ∙ follows.keeps.found);
      still = kept_on;
      unwritten = same;
      record_ = record_is;
      broken = (
        λ is. inl (subst (λ (b : Bool). IsTrue b) failed is),
        λ either. ⊎_elim (λ is. subst (λ (b : Bool). IsTrue b) (sym failed) is)
            (λ e. absurd (never_ok (List Thread) heads DiskFault e)) either,
      );
      fault = λ e. absurd (never_ok (List Thread) heads DiskFault e);
      later = later;
    }

    pub untold_heads : (r : FollowRefusal) → ((ps : Image) → pages_of view old ≡ Some ps → AnswersAs follower_refusals
        (λ (hs : List Thread). hs) (Err r) (found_heads ps (record_of old))) → IsShared (follower_refusals r)
        → (IsTrue (has_failed new) ↔ (r ≡ DiskFault)) → (is_of_disk (follower_refusals r) ≡ true
        → Rose (view (disk_of old)).faults (view (disk_of new)).faults) → TellsHeads dig view old new (Err r)
    untold_heads r answer shared broken rose = record {
      reopen = (
        λ e. absurd (subst (λ (x : FollowRefusal). IsShared (follower_refusals x))
            (same_refusal (List Thread) r Reopen e) shared),
        λ is. absurd (not_both (has_failed old) whole is),
      );
      faults = inr (shared_fault r shared);
      answer = λ _. answer;
      rises = tt;
      heads = tt;
      still = kept_on;
      unwritten = same;
      record_ = record_is;
      broken = (
        λ is. inr (ap (λ (x : FollowRefusal). Err x) (broken.0 is)),
        λ either. ⊎_elim (λ is. absurd (not_both (has_failed old) whole is))
            (λ e. broken.1 (same_refusal (List Thread) r DiskFault e)) either,
      );
      fault = λ e. rose (ap (λ (x : FollowRefusal). is_of_disk (follower_refusals x))
          (same_refusal (List Thread) r DiskFault e));
      later = later;
    }

-- ---- the message of a history that has the head

module _ (dig : List ℕ → List ℕ) (h : History) (head : Thread) (bytes : List ℕ) (name : h.name ≡ head.from)
    (has : HasHead dig h head) (makes : MakesMessage dig h head.step bytes) where
  own : (offered : Offered) × (judged_offer dig head makes.0 ≡ Ok offered)
      × (answer_to head offered ≡ thread_at_step dig h (length h.steps))
  own = own-judged dig h head makes.0 name has makes.2

  offered_in : Offered → Result Offered FollowRefusal → Offered
  offered_in other (Ok offered) = offered
  offered_in other (Err r) = other

  same_offered : (one other : Offered) → ◌≡◌ {A = Result Offered FollowRefusal} (Ok one) (Ok other) → one ≡ other
  unfolding offered_in
  same_offered one other e = ap (λ (x : Result Offered FollowRefusal). offered_in one x) e

  none_wanted : (offered : Offered) → ◌≡◌ {A = Result Offered FollowRefusal} (Ok offered) (Err NoMemory) → ⊥
  none_wanted offered e = cc

  -- what is answered to it is the history's last thread
  pub own-answer : (offered : Offered) → JudgesOffer dig head bytes (Ok offered) → answer_to head offered
      ≡ thread_at_step dig h (length h.steps)
  own-answer offered j =
      let same = same_offered offered own.0 (judges-once dig head bytes (Ok offered) (Ok own.0) j
      (judges-table dig head bytes (Ok own.0) makes.0 makes.1 own.1) (none_wanted offered) (none_wanted own.0)) in
      ap (answer_to head) same ∙ own.2

  -- it is refused for want of memory alone
  pub own-refused : (r : FollowRefusal) → JudgesOffer dig head bytes (Err r) → r ≡ NoMemory
  own-refused r j = by (sort_of dig head bytes (Err r) j)
    where
      by : (◌≡◌ {A = Result Offered FollowRefusal} (Err r) (Err NoMemory)) ⊎ IsJudged dig head bytes (Err r)
          → r ≡ NoMemory
      by (inl e) = same_refusal Offered r NoMemory e
      by (inr (inl a)) = absurd (a.2 makes.0 makes.1)
      by (inr (inr b)) = absurd (let never : ◌≡◌ {A = Result Offered FollowRefusal} (Ok own.0) (Err r) = sym own.1
          ∙ ap (judged_offer dig head) (one-message bytes makes.0 b.0 makes.1 b.1) ∙ b.2 in never_ok Offered own.0 r
          never)

  pub own-told : (thread : Thread) → thread ≡ thread_at_step dig h (length h.steps) → (thread.step ≡ length h.steps)
      × (thread.auth ≡ auth dig h (length h.steps))
  own-told thread e = (ap (λ (t : Thread). t.step) e, ap (λ (t : Thread). t.auth) e)

  -- whatever a follower answers to it by its table
  pub own-by : (is_broken : Bool) (result : Result Thread FollowRefusal) → AnswersOffer dig is_broken head bytes result
      → MatchResult result (λ thread. (thread.step ≡ length h.steps) × (thread.auth ≡ auth dig h (length h.steps)))
      (λ r. (r ≡ Reopen) ⊎ (r ≡ DiskFault) ⊎ (r ≡ NoMemory))
  own-by true (Ok thread) is = absurd (never_ok Thread thread Reopen is)
  own-by true (Err r) is = inl (same_refusal Thread r Reopen is)
  own-by false (Ok thread) (offered, judges, is) = own-told thread (is ∙ own-answer offered judges)
  own-by false (Err DiskFault) t = inr (inl refl)
  own-by false (Err r) t = inr (inr (own-refused r t))
