-- What runs of the program, and services that are opened between them, acknowledge: the steps that `append` and `receive` told, at their places,
-- with what was asked for.
use Rattle.std.specs.Prelude.{◌≡◌, ◌⊎◌, ◌<◌, ℕ, List, [], ◌∷◌, ◌++◌, Option, Some, MatchOption, Ok}
use Rattle.sha2.specs.Sha256.{sha256}
use Rattle.tw_base.specs.declared.history.content.Content.TheVariants.{Events}
use Rattle.tw_base.specs.declared.history.thread.Thread.{Thread}
use Rattle.tw_base.specs.history.History.{History, Step, step_at, thread_of}
use Rattle.tw_disk.specs.Image.{Image}
use Rattle.tw_msg.specs.declared.message.Message.{Message}
use Rattle.tw_outside.specs.Files.{Files}
use Rattle.tw_pages.specs.Runs.{Event, Happening}
use Rattle.tw_pages.specs.Runs.Event.{Acts}
use Rattle.tw_service.specs.Machine.{Call, Reply}
use Rattle.tw_service.specs.Machine.Call.{Append, Receive}
use Rattle.tw_service.specs.Machine.Reply.{OfReceipt, OfThread}
use Rattle.tw_service.specs.Stands.{StandsFor}
use Rattle.tw_service.specs.declared.service.Service.{Service}
use Rattle.tw_diskcmd.specs.Appending.{AreEventsOf}
use Rattle.tw_diskcmd.specs.Files.{IsMessageIn}
use Rattle.tw_words.specs.CommandLine.{command_of}
use Rattle.tw_words.specs.declared.command.Command.{Command}
use Rattle.tw_words.specs.declared.command.Command.TheVariants as command
use Rattle.tw_app.specs.declared.outcome.Outcome.{Outcome}
use Rattle.tw_app.specs.declared.outcome.Outcome.TheVariants.{Made, Received}
use Rattle.tw_app.specs.Statuses.{AreWordsOf}
use Rattle.tw_laws.specs.Runs.{ServiceAct}
use Rattle.tw_laws.specs.Runs.ServiceAct.{Answered}
use Rattle.tw_laws.specs.Turns.{Turn, TurnBehind}
use Rattle.tw_laws.specs.Turns.Turn.{Runs, StopsBefore, Serves}

-- the later history has the steps of this one, and then its own
pub record Extends (h later : History) : Type 0 where
  pub name : later.name ≡ h.name
  pub more : List Step
  pub steps : later.steps ≡ h.steps ++ more

-- the step has these events, and this time or none
abbrev pub HasEvents : History → (step : ℕ) → (events : List (List ℕ)) (time : Option ℕ) → Type 0
HasEvents h step events time = (s : Step) × (step_at h step ≡ Some s) × (s.content ≡ Events events) × (s.time ≡ time)

-- the step received this thread
abbrev pub HasReceived : History → (step : ℕ) → Thread → Type 0
HasReceived h step t = thread_of (step_at h step) ≡ Some t

-- where `append` came to a line, its step has the events of the file
abbrev pub HasAppended : Option Files → (file : List ℕ) (time : Option ℕ) → Outcome → History → Type 0
HasAppended told file time (Made line) h = (events : List (List ℕ)) × AreEventsOf told file events × HasEvents h line.step events time
HasAppended told file time outcome h = Unit {0}

-- where `receive` came to a receipt, its step received the thread of the file's message
abbrev pub HasArchived : Option Files → (file : List ℕ) → Outcome → History → Type 0
HasArchived told file (Received receipt) h = (m : Message) × IsMessageIn told file m × HasReceived h receipt.by.step m.thread
HasArchived told file outcome h = Unit {0}

-- what the command acknowledges stands in the history
abbrev pub HasAnswered : Option Files → Command → Outcome → History → Type 0
HasAnswered told (command.Append file time) outcome h = HasAppended told file time outcome h
HasAnswered told (command.Receive file time) outcome h = HasArchived told file outcome h
HasAnswered told c outcome h = Unit {0}

abbrev pub IsLine : Outcome → Thread → Type 0
IsLine (Made line) t = t ≡ line
IsLine outcome t = ⊥

-- the thread is that of the line which `append` came to
abbrev pub IsAppended : Command → Outcome → Thread → Type 0
IsAppended (command.Append file time) outcome t = IsLine outcome t
IsAppended c outcome t = ⊥

-- what a service replied to a call stands in the history: at the line's step the events that it was given, and at the receipt's step the thread of
-- the message
abbrev pub HasAcknowledged : Call → Reply → History → Type 0
HasAcknowledged (Append events time) (OfThread line) h = HasEvents h line.step events time
HasAcknowledged (Receive m time) (OfReceipt receipt) h = HasReceived h receipt.by.step m.thread
HasAcknowledged call reply h = Unit {0}

abbrev pub HasOfEvent : Event ServiceAct → History → Type 0
HasOfEvent (Acts (Answered call (Ok reply))) h = HasAcknowledged call reply h
HasOfEvent event h = Unit {0}

-- so of each call of a service's run
abbrev pub HasOfRun : {D S : Type 0} → List (Happening D S ServiceAct) → History → Type 0
HasOfRun [] h = Unit {0}
HasOfRun (x ∷ run) h = HasOfEvent x.event h × HasOfRun run h

-- the thread is that of the line which the service replied to events that it was given
abbrev pub IsLineReplied : Call → Reply → Thread → Type 0
IsLineReplied (Append events time) (OfThread line) t = t ≡ line
IsLineReplied call reply t = ⊥

abbrev pub IsAppendedBy : Event ServiceAct → Thread → Type 0
IsAppendedBy (Acts (Answered call (Ok reply))) t = IsLineReplied call reply t
IsAppendedBy event t = ⊥

abbrev pub IsAppendedInRun : {D S : Type 0} → List (Happening D S ServiceAct) → Thread → Type 0
IsAppendedInRun [] t = ⊥
IsAppendedInRun (x ∷ run) t = IsAppendedBy x.event t ⊎ IsAppendedInRun run t

-- each step that is appended comes behind those that were appended before
abbrev pub RunRises : {D S : Type 0} → List (Happening D S ServiceAct) → Type 0
RunRises [] = Unit {0}
RunRises (x ∷ run) = ((one later : Thread) → IsAppendedBy x.event one → IsAppendedInRun run later → one.step < later.step) × RunRises run

module _ {D H : Type 0} {g : _} {k : _} where
  -- what the turn acknowledges stands in the history
  abbrev pub HasOfTurn : Turn D (Service D H g k) → History → Type 0
  HasOfTurn (Runs words o outcome) h = MatchOption (command_of words) (Unit {0}) (λ c. HasAnswered o.inputs.told c outcome h)
  HasOfTurn (StopsBefore words o outcome) h = Unit {0}
  HasOfTurn (Serves run) h = HasOfRun run h

  abbrev pub HasOfAll : List (TurnBehind D (Service D H g k)) → History → Type 0
  HasOfAll [] h = Unit {0}
  HasOfAll (x ∷ moves) h = HasOfTurn x.turn h × HasOfAll moves h

  abbrev pub IsAppendedIn : Turn D (Service D H g k) → Thread → Type 0
  IsAppendedIn (Runs words o outcome) t = AreWordsOf (λ c. IsAppended c outcome t) words
  IsAppendedIn (StopsBefore words o outcome) t = ⊥
  IsAppendedIn (Serves run) t = IsAppendedInRun run t

  abbrev pub IsAppendedByAny : List (TurnBehind D (Service D H g k)) → Thread → Type 0
  IsAppendedByAny [] t = ⊥
  IsAppendedByAny (x ∷ moves) t = IsAppendedIn x.turn t ⊎ IsAppendedByAny moves t

  -- so within the turn of services
  abbrev pub TurnRises : Turn D (Service D H g k) → Type 0
  TurnRises (Serves run) = RunRises run
  TurnRises turn = Unit {0}

  -- and of all turns
  abbrev pub AppendsRise : List (TurnBehind D (Service D H g k)) → Type 0
  AppendsRise [] = Unit {0}
  AppendsRise (x ∷ moves) =
      ((one later : Thread) → IsAppendedIn x.turn one → IsAppendedByAny moves later → one.step < later.step) × TurnRises x.turn × AppendsRise moves

  -- the image stands for a history that has the first one's steps, and all that was acknowledged
  abbrev pub KeepsAcknowledged : (first : History) → List (TurnBehind D (Service D H g k)) → Image → Type 0
  KeepsAcknowledged first moves image = (h : History) × StandsFor sha256 image first.name h × Extends first h × HasOfAll moves h
