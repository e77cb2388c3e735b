-- What becomes of offered bytes: the table, whose lines are tried in their order.
use Rattle.std.specs.Prelude.{◌≡◌, ℕ, ◌==◌, ◌&&◌, List, Bool, not, nat_lt, if◌then◌else◌, Result, Ok, Err, true, false}
use Rattle.std.specs.Str.{bytes_eq}
use Rattle.tw_base.specs.declared.history.thread.Thread.{Thread}
use Rattle.tw_base.specs.format.Formats.{IsPlace, Spells, SpellsNothing}
use Rattle.tw_msg.specs.declared.message.Message.{Message}
use Rattle.tw_msg.specs.Messages.{message_layout}
use Rattle.tw_skipproof.specs.Paths.{climbed}
use Rattle.tw_follow.specs.declared.judging.Offered.{Offered}
use Rattle.tw_follow.specs.declared.judging.Offered.TheVariants.{Known, Moves}
use Rattle.tw_base.specs.declared.history.refusal.FollowRefusal.{FollowRefusal}
use Rattle.tw_base.specs.declared.history.refusal.FollowRefusal.TheVariants.{Malformed, Other, Stale, Forked, BadLink, DiskFault, Reopen, NoMemory}

-- the thread that is answered
abbrev pub answer_to : Thread → Offered → Thread
answer_to head Known = head
answer_to head (Moves thread) = thread

module _ (dig : List ℕ → List ℕ) where
  -- the message's link leads down to the head's step, and climbs from the head's authenticator to the message's
  abbrev pub leads_from_head : (head : Thread) → Message → Bool
  leads_from_head head m = (m.since == head.step) && bytes_eq (climbed dig m.link.links m.thread.step m.since head.auth) m.thread.auth

  -- of a message of the head's step
  abbrev pub judge_same : (head : Thread) → Message → Result Offered FollowRefusal
  judge_same head m = if bytes_eq m.thread.auth head.auth then Ok Known else Err (Forked head.step head.auth m.thread.auth)

  -- of a message of a later step
  abbrev pub judge_later : (head : Thread) → Message → Result Offered FollowRefusal
  judge_later head m = if leads_from_head head m then Ok (Moves m.thread) else Err (BadLink head.step head.auth)

  -- of another service; below the head's step; of the head's step; above it
  unfoldable pub judged_offer : (head : Thread) → Message → Result Offered FollowRefusal
  judged_offer head m =
      if not (bytes_eq m.thread.from head.from) then Err (Other m.thread.from)
      else if nat_lt m.thread.step head.step then Err (Stale head.step)
      else if m.thread.step == head.step then judge_same head m
      else judge_later head m

  -- The bytes are no message, and the place of the first bad one is told; or they spell one, of which the table says so. Want of
  -- memory is free.
  abbrev pub JudgesOffer : (head : Thread) → (bytes : List ℕ) → Result Offered FollowRefusal → Type 0
  JudgesOffer head bytes (Err (Malformed place)) = SpellsNothing message_layout bytes × IsPlace message_layout bytes place
  JudgesOffer head bytes (Err NoMemory) = Unit {0}
  JudgesOffer head bytes result = (m : Message) × Spells message_layout bytes m × (judged_offer head m ≡ result)

  -- what a follower answers: after a disk fault nothing but Reopen; else what the table says, unless a disk fault comes where the
  -- bytes move the head
  abbrev pub AnswersOffer : (is_broken : Bool) → (head : Thread) → (bytes : List ℕ) → Result Thread FollowRefusal → Type 0
  AnswersOffer true head bytes result = result ≡ Err Reopen
  AnswersOffer false head bytes (Ok thread) = (offered : Offered) × JudgesOffer head bytes (Ok offered) × (thread ≡ answer_to head offered)
  AnswersOffer false head bytes (Err DiskFault) = (thread : Thread) × JudgesOffer head bytes (Ok (Moves thread))
  AnswersOffer false head bytes (Err refusal) = JudgesOffer head bytes (Err refusal)
