-- The record and pages of a follower's store after an offer, whatever the pages keep.
use Rattle.std.specs.Prelude.{◌≡◌, ◌+◌, ℕ, List, [], ◌∷◌, ◌++◌, length, Result, Ok}
use Rattle.tw_base.specs.declared.history.thread.Thread.{Thread}
use Rattle.tw_disk.specs.declared.limits.TheConstants.{FIRST_PAGE}
use Rattle.tw_pages.specs.Records.{Written, written_record}
use Rattle.tw_follow.specs.declared.judging.Offered.{Offered}
use Rattle.tw_follow.specs.declared.judging.Offered.TheVariants.{Moves}
use Rattle.tw_base.specs.declared.history.refusal.FollowRefusal.{FollowRefusal}
use Rattle.tw_follow.specs.declared.root.RootRecord.{RootRecord}
use Rattle.tw_follow.specs.HeadPages.{head_page_bytes}
use Rattle.tw_follow.specs.Offers.{JudgesOffer, answer_to}

-- with this later head: its page, which names that of the head before, stands behind the others
abbrev pub moved_to : Written RootRecord → Thread → Written RootRecord
moved_to w head =
    written_record (record { head = head; page = FIRST_PAGE + length w.pages })
    (w.pages ++ head_page_bytes (record { step = head.step; auth = head.auth; before = w.root.page }) ∷ [])

-- after what the table says
abbrev pub record_after : Written RootRecord → Result Offered FollowRefusal → Written RootRecord
record_after w (Ok (Moves thread)) = moved_to w thread
record_after w _ = w

module _ (dig : List ℕ → List ℕ) (bytes : List ℕ) where
  -- the bytes move the record's head, and these are the record and pages with it
  abbrev pub IsMovedBy : (w next : Written RootRecord) → Type 0
  IsMovedBy w next = (thread : Thread) × JudgesOffer dig w.root.head bytes (Ok (Moves thread)) × (next ≡ moved_to w thread)

  -- the thread is what the table answers to the bytes, and these are the record and pages after that
  abbrev pub IsAnsweredTo : Thread → (w next : Written RootRecord) → Type 0
  IsAnsweredTo thread w next =
      (offered : Offered) × JudgesOffer dig w.root.head bytes (Ok offered) × (thread ≡ answer_to w.root.head offered) × (next ≡ record_after w (Ok offered))
