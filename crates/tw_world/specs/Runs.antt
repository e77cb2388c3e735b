-- What the lines of a schedule do to a world, one after another, and what is told of each. Free are only the shape of an archive's new tree, the times
-- that services may claim, and, at a line that a crash waits for, whether it is stopped, and then whether it has done what it does.
use Rattle.std.specs.Prelude.{◌≡◌, ◌⊎◌, ℕ, suc, ◌≤◌, List, [], ◌∷◌, length, Bool, true, false, Option, Some, None, IsNone, IsTrue, MatchOption, Result, Ok, Err}
use Rattle.tw_base.specs.format.Formats.{IsPlace, Spells, SpellsNothing}
use Rattle.tw_base.specs.declared.history.question.Question.TheVariants.{ThreadOut}
use Rattle.tw_base.specs.history.Auth.{auth}
use Rattle.tw_base.specs.history.History.{History}
use Rattle.tw_base.specs.history.Limits.{IsTimeWithinLimits}
use Rattle.tw_base.specs.history.Reasons.{reason_number}
use Rattle.tw_base.specs.kinds.Bytes.{AreBytes}
use Rattle.tw_base.specs.kinds.Lists.{Each, In}
use Rattle.tw_base.specs.kinds.Names.{IsName}
use Rattle.tw_chain.specs.Proofs.{proof_bytes, proof_layout}
use Rattle.tw_chain.specs.Reasons.{IsVerdict}
use Rattle.tw_chain.specs.declared.proof.Proof.{Proof}
use Rattle.tw_chain.specs.declared.verdict.Verdict.{Verdict}
use Rattle.tw_chain.specs.declared.verdict.Verdict.TheVariants.{Yes, No}
use Rattle.tw_join.specs.Joining.{Joins}
use Rattle.tw_join.specs.declared.joining.JoinFault.{JoinFault}
use Rattle.tw_join.specs.declared.joining.JoinFault.TheVariants.{Gap, NoMemory}
use Rattle.tw_msg.specs.Messages.{message_layout}
use Rattle.tw_msg.specs.declared.message.Message.{Message}
use Rattle.tw_script.specs.declared.line.Line.{Line}
use Rattle.tw_script.specs.declared.line.Line.TheVariants.{Service, Hostile, Append, Send, Inject, Deliver, Lose, Crash, Prove, Join, Anchor, Verify}
use Rattle.tw_service.specs.Machine.{IsStepOf, Reply}
use Rattle.tw_service.specs.Machine.Call.{Append as AppendEvents, Ask, Receive}
use Rattle.tw_service.specs.Machine.Reply.{OfBytes, OfReceipt, Refused}
use Rattle.tw_base.specs.declared.history.refusal.Refusal.TheVariants.{Malformed, NoStep}
use Rattle.tw_world.specs.declared.told.Answer.{Answer}
use Rattle.tw_world.specs.declared.told.Answer.TheVariants as answer
use Rattle.tw_world.specs.declared.told.Told.{Told}
use Rattle.tw_world.specs.declared.told.Told.TheVariants.{Plain, Crashed, Stopped}
use Rattle.tw_world.specs.Worlds.{Mail, Member, World, after_line, member_of, moved, no_world, numbered, with_anchor, with_file, with_hostile, with_member, with_message, with_service, without_message}
use Rattle.tw_world.specs.Worlds.Mail.{Made, Unmade, Dropped}

-- a new name: no service's, and none that lies
abbrev pub IsNew : World → (name : List ℕ) → Type 0
IsNew w name = IsName name × IsNone (member_of w.members name) × (In name w.hostile → ⊥)

-- the service of this name
abbrev pub IsMember : World → (name : List ℕ) → Member → Type 0
IsMember w name m = member_of w.members name ≡ Some m

-- the history has the step, which is from 1 on
abbrev pub HasStep : History → (step : ℕ) → Type 0
HasStep h step = (1 ≤ step) × (step ≤ length h.steps)

-- the answer to a reply: what is told of one that is no refusal, or the refusal
abbrev pub answer_to_reply : (own : Answer) → Reply → Answer
answer_to_reply own (Refused refusal) = answer.Refused refusal
answer_to_reply own _ = own

-- ---- what is made

-- a file more, told by its number
abbrev pub IsFiled : World → (bytes : List ℕ) → Told → World → Type 0
IsFiled w bytes told next = (told ≡ Plain (answer.Filed (suc (length w.files)))) × (next ≡ after_line (with_file w (Some bytes)))

-- the next file isn't made, for this reason
abbrev pub IsNotFiled : World → (why : Answer) → Told → World → Type 0
IsNotFiled w why told next = (told ≡ Plain why) × (next ≡ after_line (with_file w None))

-- the message that a reply makes
abbrev pub mail_of : Reply → Mail
mail_of (OfBytes bytes) = Made bytes
mail_of _ = Unmade

-- the file that a proof's reply makes; a refusal makes none, and is told
abbrev pub ProofTold : World → Reply → Told → World → Type 0
ProofTold w (OfBytes bytes) told next = IsFiled w bytes told next
ProofTold w (Refused refusal) told next = IsNotFiled w (answer.Refused refusal) told next
ProofTold w _ told next = ⊥

-- the files of these numbers, in their order: each is there, and has these bytes or wasn't made
abbrev pub AreFiles : World → (numbers : List ℕ) → List (Option (List ℕ)) → Type 0
AreFiles w [] [] = Unit {0}
AreFiles w (n ∷ numbers) (file ∷ files) = (numbered w.files n ≡ Some file) × AreFiles w numbers files
AreFiles w _ _ = ⊥

-- all of them were made, and spell these proofs
abbrev pub AreProofs : List (Option (List ℕ)) → List Proof → Type 0
AreProofs [] [] = Unit {0}
AreProofs (Some bytes ∷ files) (p ∷ proofs) = Spells proof_layout bytes p × AreProofs files proofs
AreProofs _ _ = ⊥

-- the file that proofs join to, or where they don't
abbrev pub JoinTold : World → Result Proof JoinFault → Told → World → Type 0
JoinTold w (Ok p) told next = IsFiled w (proof_bytes p) told next
JoinTold w (Err (Gap place)) told next = IsNotFiled w (answer.NotJoined place) told next
JoinTold w (Err NoMemory) told next = ⊥

abbrev pub verdict_answer : Verdict → Answer
verdict_answer (Yes report) = answer.Accepted
verdict_answer (No reason) = answer.Rejected (reason_number reason)

-- what is told of a message that is dropped
abbrev pub loss_answer : Mail → Option Answer
loss_answer (Made bytes) = Some answer.Done
loss_answer Unmade = Some answer.Nothing
loss_answer Dropped = None

-- the step of a service that a receipt tells
abbrev pub receipt_step : Reply → ℕ
receipt_step (OfReceipt receipt) = receipt.by.step
receipt_step _ = 0

-- what is told of a line that may add a step and has done what it does. No crash waited: its answer. One waited: its answer, and then the
-- crash came; or it was stopped
abbrev pub TellsLine : (waits : Bool) → Answer → (steps : ℕ) → Told → Type 0
TellsLine false answer steps told = told ≡ Plain answer
TellsLine true answer steps told = (told ≡ Crashed answer steps) ⊎ (told ≡ Stopped steps)

module _ (dig : List ℕ → List ℕ) where
  -- what a service does with bytes that it receives, at this time or none: those that are no message are refused
  abbrev pub TakesBytes : History → (bytes : List ℕ) → (time : Option ℕ) → Reply → (next : History) → Type 0
  TakesBytes h bytes time reply next =
      ((m : Message) × Spells message_layout bytes m × IsStepOf dig h (Receive m time) reply next)
      ⊎ (SpellsNothing message_layout bytes × (next ≡ h) × ((place : ℕ) × IsPlace message_layout bytes place × (reply ≡ Refused (Malformed place))))

-- the service replies, by this rule, and goes on with a history; `own` is told of a reply that is no refusal
pub record Replies (Rule : History → Reply → History → Type 0) (own : History → Reply → Answer) (w : World) (m : Member) (told : Told) (next : World) : Type 0 where
  pub reply : Reply
  pub history : History
  pub replies : Rule m.history reply history
  pub tells : TellsLine m.waits (answer_to_reply (own history reply) reply) (length history.steps) told
  pub becomes : next ≡ after_line (moved w m history)

-- a line that was stopped by the crash that waited, and has done nothing
abbrev pub IsUndone : World → Member → Told → World → Type 0
IsUndone w m told next =
    (m.waits ≡ true) × (told ≡ Stopped (length m.history.steps)) × (next ≡ after_line (with_member w (record m { waits = false })))

-- a line that may add a step
abbrev pub Moves : (Rule : History → Reply → History → Type 0) → (own : History → Reply → Answer) → World → Member → Told → World → Type 0
Moves Rule own w m told next = Replies Rule own w m told next ⊎ IsUndone w m told next

-- a service may claim this time for a step, or none
module _ (dig : List ℕ → List ℕ) (may_claim : Option ℕ → Bool) where
  -- events are appended, at some time or none
  abbrev pub Appending : List (List ℕ) → History → Reply → History → Type 0
  Appending events h reply next = (time : Option ℕ) × IsTrue (may_claim time) × IsTimeWithinLimits time × IsStepOf dig h (AppendEvents events time) reply next

  -- bytes are received
  abbrev pub Receiving : (bytes : List ℕ) → History → Reply → History → Type 0
  Receiving bytes h reply next = (time : Option ℕ) × IsTrue (may_claim time) × IsTimeWithinLimits time × TakesBytes dig h bytes time reply next

  -- a message is delivered; one that wasn't made is told as none, and a crash that waits goes on waiting
  abbrev pub IsDelivered : World → Mail → Member → Told → World → Type 0
  IsDelivered w (Made bytes) m told next = Moves (Receiving bytes) (λ h reply. answer.Archived (receipt_step reply)) w m told next
  IsDelivered w Unmade m told next = (told ≡ Plain answer.Nothing) × (next ≡ after_line w)
  IsDelivered w Dropped m told next = ⊥

  -- the line is told so, and this is the world after it. No line is told that uses a service, a message or a file that isn't there
  abbrev pub IsLineTold : World → Line → Told → World → Type 0
  IsLineTold w (Service name) told next = IsNew w name × (told ≡ Plain answer.Done) × (next ≡ after_line (with_service w name))
  IsLineTold w (Hostile name) told next = IsNew w name × (told ≡ Plain answer.Done) × (next ≡ after_line (with_hostile w name))
  IsLineTold w (Append name events) told next =
      Each AreBytes events × ((m : Member) × IsMember w name m × Moves (Appending events) (λ h reply. answer.Stepped (length h.steps)) w m told next)
  IsLineTold w (Send name since) told next =
      (m : Member) × IsMember w name m × ((reply : Reply) × IsStepOf dig m.history (Ask (ThreadOut since)) reply m.history
      × (told ≡ Plain (answer_to_reply (answer.Sent (suc (length w.messages))) reply)) × (next ≡ after_line (with_message w (mail_of reply))))
  IsLineTold w (Inject name bytes) told next =
      In name w.hostile × ((m : Message) → Spells message_layout bytes m → m.thread.from ≡ name)
      × (told ≡ Plain (answer.Sent (suc (length w.messages)))) × (next ≡ after_line (with_message w (Made bytes)))
  IsLineTold w (Deliver number name) told next =
      (m : Member) × IsMember w name m × MatchOption (numbered w.messages number) ⊥ (λ mail. IsDelivered w mail m told next)
  IsLineTold w (Lose number) told next =
      (mail : Mail) × (numbered w.messages number ≡ Some mail) × MatchOption (loss_answer mail) ⊥ (λ lost. told ≡ Plain lost)
      × (next ≡ after_line (without_message w number))
  -- a crash waits now, whether or not one waited already; at which call, and what it leaves, isn't the world's
  IsLineTold w (Crash name call choice) told next =
      (m : Member) × IsMember w name m × (told ≡ Plain answer.Done) × (next ≡ after_line (with_member w (record m { waits = true })))
  IsLineTold w (Prove name asked) told next =
      (m : Member) × IsMember w name m × ((reply : Reply) × IsStepOf dig m.history (Ask asked) reply m.history × ProofTold w reply told next)
  IsLineTold w (Join numbers) told next =
      (2 ≤ length numbers) × ((files : List (Option (List ℕ))) × AreFiles w numbers files
      × ((In None files × IsNotFiled w answer.Nothing told next)
      ⊎ ((proofs : List Proof) × AreProofs files proofs × ((joined : Result Proof JoinFault) × Joins proofs joined × JoinTold w joined told next))))
  IsLineTold w (Anchor name step) told next =
      (m : Member) × IsMember w name m
      × ((HasStep m.history step × (told ≡ Plain answer.Done) × (next ≡ after_line (with_anchor w (record { from = name; step = step; auth = auth dig m.history step }))))
      ⊎ ((HasStep m.history step → ⊥) × (told ≡ Plain (answer.Refused (NoStep (length m.history.steps)))) × (next ≡ after_line w)))
  IsLineTold w (Verify number) told next =
      (next ≡ after_line w) × MatchOption (numbered w.files number) ⊥
      (λ file. MatchOption file (told ≡ Plain answer.Nothing)
      (λ bytes. (verdict : Verdict) × IsVerdict dig w.anchors false bytes verdict × (told ≡ Plain (verdict_answer verdict))))

  -- the lines are told one after another, from one world to another
  unfoldable pub RunsLines : World → List Line → List Told → World → Type 0
  RunsLines w [] [] end = w ≡ end
  RunsLines w (line ∷ lines) (told ∷ more) end = (next : World) × IsLineTold w line told next × RunsLines next lines more end
  RunsLines w _ _ end = ⊥

  -- some schedule leads to the world
  abbrev pub IsReached : World → Type 0
  IsReached w = (lines : List Line) × (told : List Told) × RunsLines no_world lines told w
