-- What the calls of a follower make.
use Rattle.std.specs.Prelude.{◌≡◌, ◌⊎◌, ◌↔◌, ℕ, ◌≤◌, List, Some, Result, Ok, Err, IfErr, IfOk, IsTrue, OnErr, false}
use Rattle.tw_base.specs.declared.history.thread.Thread.{Thread}
use Rattle.tw_base.specs.kinds.Faults.{Rose}
use Rattle.tw_disk.specs.Answers.{AnswersAs}
use Rattle.tw_disk.specs.Disk.{DiskView, LeavesOnly, Reads}
use Rattle.tw_disk.specs.Image.{Image}
use Rattle.tw_follow.specs.declared.follower.Follower.{Follower}
use Rattle.tw_base.specs.declared.history.refusal.FollowRefusal.{FollowRefusal}
use Rattle.tw_base.specs.declared.history.refusal.FollowRefusal.TheVariants.{DiskFault, Reopen}
use Rattle.tw_pages.specs.Commits.{Commits}
use Rattle.tw_follow.specs.Follows.{Follows, HasSameDisk, IsOver, disk_of, has_failed, head_of, pages_of, record_of}
use Rattle.tw_follow.specs.HeadLists.{Kept, RiseTo}
use Rattle.tw_follow.specs.HeadPages.{found_heads}
use Rattle.tw_follow.specs.Offers.{AnswersOffer}
use Rattle.tw_follow.specs.Refusals.{IsFollowerFault, follower_refusals}
use Rattle.tw_follow.specs.Runs.{GoesByMove}
use Rattle.tw_follow.specs.Runs.Move.{Answered, Stopped}
use Rattle.tw_follow.specs.Stands.{StandsFor, StandsForOneOf, root_kind}
use Rattle.tw_follow.specs.Writing.{IsAnsweredTo, IsMovedBy}

module _ {D H : Type 0} {g : _} {k : _} (dig : List ℕ → List ℕ) (view : D → DiskView) where
  -- Of a list that was kept there is a next one: the same, or with the head to which the bytes move. Each image that a crash since may
  -- leave stands for one of the two, and so does the content, which is told still, after a disk fault too. After an answer the next one
  -- is kept, at rest. After a refusal but a disk fault the list is kept as before, at rest, and each image stands for it.
  pub record OfferSteps (bytes : List ℕ) (old new : Follower D H g k) (result : Result Thread FollowRefusal) (kept : Kept) : Type 0 where
    pub next : Kept
    pub goes : GoesByMove dig kept (Stopped bytes) next
    pub any_moment : LeavesOnly (view (disk_of old)) (view (disk_of new)) (StandsForOneOf dig kept next)
    pub told : Reads (view (disk_of new)) (StandsForOneOf dig kept next)
    pub done : IfOk result (λ thread. GoesByMove dig kept (Answered bytes (Ok thread)) next × Follows dig view new next)
    pub refused : IfErr result (λ refusal. (refusal ≡ DiskFault)
        ⊎ (Follows dig view new kept × LeavesOnly (view (disk_of old)) (view (disk_of new)) (λ i. StandsFor dig i kept)))

  -- what offering these bytes does
  pub record Offers (bytes : List ℕ) (old new : Follower D H g k) (result : Result Thread FollowRefusal) : Type 0 where
    -- each refusal of the table comes exactly where its line is the first that stands; else only a disk fault and want of memory are left
    pub table : AnswersOffer dig (has_failed old) (head_of old) bytes result
    -- of each list that was kept
    pub steps : (kept : Kept) → Follows dig view old kept → OfferSteps bytes old new result kept
    -- of whatever pages: the record and pages that the table makes of them are next
    pub written : (ps : Image) → IsOver dig view old ps
        → Commits view (root_kind dig) DiskFault (IsMovedBy dig bytes) (IsAnsweredTo dig bytes) old.recorded.store new.recorded.store (record_of old) (record_of new) result ps
    -- the answer is the head, which is the old one or a later one of the same service; where it is the old one, nothing was written
    pub head : IfOk result (λ thread. (thread ≡ head_of new) × (thread.from ≡ (head_of old).from))
    pub same : IfOk result (λ thread. thread ≡ head_of old → (record_of new ≡ record_of old) × HasSameDisk view old new)
    -- after each refusal the root record is as before; after one but a disk fault nothing was written
    pub kept : OnErr result (record_of new ≡ record_of old)
    pub unwritten : IfErr result (λ refusal. (refusal ≡ DiskFault) ⊎ HasSameDisk view old new)
    -- that a call answered a disk fault is remembered, and nothing else is remembered so
    pub broken : IsTrue (has_failed new) ↔ (IsTrue (has_failed old) ⊎ (result ≡ Err DiskFault))
    -- a disk fault comes only where the disk's count of faults rose, which never falls
    pub fault : result ≡ Err DiskFault → Rose (view (disk_of old)).faults (view (disk_of new)).faults
    pub later : (view (disk_of old)).faults ≤ (view (disk_of new)).faults

  -- what telling the heads does
  pub record TellsHeads (old new : Follower D H g k) (result : Result (List Thread) FollowRefusal) : Type 0 where
    -- Reopen comes exactly after a disk fault, and else only faults of the disk, of its pages and of memory
    pub reopen : (result ≡ Err Reopen) ↔ IsTrue (has_failed old)
    pub faults : IfErr result (λ refusal. (refusal ≡ Reopen) ⊎ IsFollowerFault refusal)
    -- over told pages, whatever they keep, the answer is what is found in them, a disk fault and want of memory excepted
    pub answer : has_failed old ≡ false → (ps : Image) → pages_of view old ≡ Some ps → AnswersAs follower_refusals (λ heads. heads) result (found_heads ps (record_of old))
    -- over whatever disk, also one that contradicts itself: the answer rises to the value's head
    pub rises : IfOk result (RiseTo (head_of old))
    -- where a list is kept, the answer is it
    pub heads : IfOk result (λ heads. (kept : Kept) → Follows dig view old kept → heads ≡ kept.heads)
    -- whatever the answer, the list is kept as before, at rest, nothing is written, and the root record is as before
    pub still : (kept : Kept) → Follows dig view old kept → Follows dig view new kept × LeavesOnly (view (disk_of old)) (view (disk_of new)) (λ i. StandsFor dig i kept)
    pub unwritten : HasSameDisk view old new
    pub record_ : record_of new ≡ record_of old
    -- that a call answered a disk fault is remembered, and nothing else is remembered so
    pub broken : IsTrue (has_failed new) ↔ (IsTrue (has_failed old) ⊎ (result ≡ Err DiskFault))
    -- a disk fault comes only where the disk's count of faults rose, which never falls
    pub fault : result ≡ Err DiskFault → Rose (view (disk_of old)).faults (view (disk_of new)).faults
    pub later : (view (disk_of old)).faults ≤ (view (disk_of new)).faults
