-- What may come to a follower on one disk, and what that makes of its list.
use Rattle.std.specs.Prelude.{◌≡◌, ◌⊎◌, ℕ, List, [], ◌∷◌, ◌++◌, Result, Ok, Err}
use Rattle.tw_base.specs.declared.history.thread.Thread.{Thread}
use Rattle.tw_base.specs.format.Formats.{Spells}
use Rattle.tw_msg.specs.declared.message.Message.{Message}
use Rattle.tw_msg.specs.Messages.{message_layout, message_texts}
use Rattle.tw_follow.specs.declared.judging.Offered.TheVariants.{Known, Moves}
use Rattle.tw_base.specs.declared.history.refusal.FollowRefusal.{FollowRefusal}
use Rattle.tw_base.specs.declared.history.refusal.FollowRefusal.TheVariants.{DiskFault}
use Rattle.tw_follow.specs.HeadLists.{Kept, last_head, with_head}
use Rattle.tw_follow.specs.Offers.{JudgesOffer, judged_offer}

-- an offer of these bytes with its answer; one that a crash stopped, after which the disk was opened again; or the disk was opened
-- again, after a crash or not
pub data Move : Type 0 where
  Answered : (bytes : List ℕ) → Result Thread FollowRefusal → Move
  Stopped : (bytes : List ℕ) → Move
  Reopened : Move

module _ (dig : List ℕ → List ℕ) where
  -- the bytes spell this message, which moves the list's head, and the next list has its thread as one head more
  pub record MovesBy (kept : Kept) (bytes : List ℕ) (m : Message) (next : Kept) : Type 0 where
    pub spelled : Spells message_layout bytes m
    pub moves : judged_offer dig (last_head dig kept) m ≡ Ok (Moves m.thread)
    pub adds : next ≡ with_head kept m.thread

  -- the list may stay: nothing was answered, or a refusal, or the head to the head itself
  abbrev pub MayStay : Kept → Move → Type 0
  MayStay kept (Answered bytes (Ok thread)) = JudgesOffer dig (last_head dig kept) bytes (Ok Known) × (thread ≡ last_head dig kept)
  MayStay kept (Answered bytes (Err refusal)) = Unit {0}
  MayStay kept (Stopped bytes) = Unit {0}
  MayStay kept Reopened = Unit {0}

  -- it may grow by the thread of this message, to the next list: that was answered, or a disk fault or a crash came instead
  abbrev pub MayMove : Kept → Move → Message → (next : Kept) → Type 0
  MayMove kept (Answered bytes (Ok thread)) m next = MovesBy kept bytes m next × (thread ≡ m.thread)
  MayMove kept (Answered bytes (Err DiskFault)) m next = MovesBy kept bytes m next
  MayMove kept (Answered bytes (Err refusal)) m next = ⊥
  MayMove kept (Stopped bytes) m next = MovesBy kept bytes m next
  MayMove kept Reopened m next = ⊥

  -- one or the other
  abbrev pub GoesByMove : Kept → Move → (next : Kept) → Type 0
  GoesByMove kept move next = (MayStay kept move × (next ≡ kept)) ⊎ ((m : Message) × MayMove kept move m next)

  -- one move after another, with the messages by which the list grew
  unfoldable pub RunsByMoves : Kept → List Move → (moved : List Message) → (last : Kept) → Type 0
  RunsByMoves kept [] moved last = (moved ≡ []) × (last ≡ kept)
  RunsByMoves kept (move ∷ moves) moved last =
      (MayStay kept move × RunsByMoves kept moves moved last)
      ⊎ ((m : Message) × (others : List Message) × (next : Kept) × (moved ≡ m ∷ others) × MayMove kept move m next × RunsByMoves next moves others last)

  -- what climbing the links of these messages hashes, the first one from this thread, and each other one from that of the one before
  abbrev pub moved_texts : Thread → List Message → List (List ℕ)
  moved_texts head [] = []
  moved_texts head (m ∷ ms) = message_texts dig head.auth m ++ moved_texts m.thread ms
