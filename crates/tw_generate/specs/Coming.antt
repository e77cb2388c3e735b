-- What comes of every schedule.
use Rattle.std.specs.Prelude.{ℕ, ◌≤◌, List, [], ◌∷◌, Bool, None, Result, Ok, Err}
use Rattle.tw_base.specs.declared.history.refusal.Refusal.{Refusal}
use Rattle.tw_audit.specs.declared.finding.AuditFault.{AuditFault}
use Rattle.tw_audit.specs.declared.finding.AuditFault.TheVariants.{NoMemory, NotHeld}
use Rattle.tw_audit.specs.declared.finding.Finding.{Finding}
use Rattle.tw_base.specs.declared.history.question.Question.TheVariants.{ThreadOut}
use Rattle.tw_base.specs.history.History.{History}
use Rattle.tw_msg.specs.HistoryMessages.{IsMessageOf}
use Rattle.tw_msg.specs.declared.message.Message.{Message}
use Rattle.tw_service.specs.Machine.{Call, IsStepOf}
use Rattle.tw_service.specs.Machine.Call.{Append, Ask, Receive}
use Rattle.tw_service.specs.Machine.Reply.{Refused}
use Rattle.tw_generate.specs.Schedules.{IsDone, LeadTo, ScheduledAct, Trio, last_heard, no_steps, schedule, trio_history}
use Rattle.tw_generate.specs.Schedules.ScheduledAct.{Appends, Tells}
use Rattle.tw_generate.specs.Summing.{TellsStands}

-- the number's schedule of so many rounds, at most 10,000, leads to the three histories
abbrev pub IsLedTo : (dig : List ℕ → List ℕ) → (number rounds : ℕ) → Trio → Type 0
IsLedTo dig number rounds t = (rounds ≤ 10000) × LeadTo dig (schedule number rounds) no_steps t

-- an audit told that the proof stands, or that texts clash; or there was no memory
abbrev pub IsAuditTold : Result Finding AuditFault → Type 0
IsAuditTold (Ok finding) = (stands : Bool) × TellsStands finding stands
IsAuditTold (Err (NotHeld thread found)) = ⊥
IsAuditTold (Err NoMemory) = Unit {0}

-- ---- that no call is refused

module _ (dig : List ℕ → List ℕ) where
  -- the machine doesn't refuse the call
  abbrev pub IsNotRefused : History → Call → Type 0
  IsNotRefused h call = (refusal : Refusal) (next : History) → IsStepOf dig h call (Refused refusal) next → ⊥

  -- the one can tell its last step to the other: it isn't refused the message since the last step that the other has archived of it, and the
  -- other isn't refused to receive any such message
  abbrev pub CanTell : (from to : History) → Type 0
  CanTell from to =
      let since : ℕ = last_heard to from.name in
      IsNotRefused from (Ask (ThreadOut since)) × ((m : Message) → IsMessageOf dig from since m → IsNotRefused to (Receive m None))

  -- no call of the act is refused: that a service appends; that one tells its last step to another one
  abbrev pub CanBeDone : ScheduledAct → Trio → Type 0
  CanBeDone (Appends who events) t = IsNotRefused (trio_history who t) (Append events None)
  CanBeDone (Tells from to) t = CanTell (trio_history from t) (trio_history to t)

  -- no call of the acts is, wherever those before it led
  unfoldable pub AllCanBeDone : List ScheduledAct → Trio → Type 0
  AllCanBeDone [] t = Unit {0}
  AllCanBeDone (act ∷ acts) t = CanBeDone act t × ((next : Trio) → IsDone dig act t next → AllCanBeDone acts next)
