-- The commands that ask a service a question: when it is answered, when it isn't, and what they come to.
use Rattle.std.specs.Prelude.{ℕ, List, Option, Result, Ok, Err, false}
use Rattle.sha2.specs.Sha256.{sha256}
use Rattle.tw_base.specs.format.Formats.{Spells}
use Rattle.tw_base.specs.history.Auth.{auth}
use Rattle.tw_base.specs.history.History.{History}
use Rattle.tw_disk.specs.Found.{Found}
use Rattle.tw_disk.specs.Image.{Image}
use Rattle.tw_msg.specs.declared.message.Message.{Message}
use Rattle.tw_msg.specs.Messages.{Leads, message_layout}
use Rattle.tw_base.specs.declared.history.refusal.Refusal.{Refusal as ServiceRefusal}
use Rattle.tw_answers.specs.declared.root.RootRecord.{RootRecord}
use Rattle.tw_base.specs.declared.history.question.Question.{Question}
use Rattle.tw_base.specs.declared.history.question.Question.TheVariants as ask
use Rattle.tw_service.specs.Answered.{IsAcceptedFor}
use Rattle.tw_service.specs.Machine.{Call, IsStepOf, Makes}
use Rattle.tw_service.specs.Machine.Call.{Ask}
use Rattle.tw_service.specs.Machine.Reply.{OfBytes}
use Rattle.tw_service.specs.Questions.{Besides, found_answer, question_refusal}
use Rattle.tw_text.specs.declared.fault.CommandFault.{CommandFault}
use Rattle.tw_diskcmd.specs.Answers.{ComesTo, MachineAnswers, TableAnswersOr}
use Rattle.tw_diskcmd.specs.Comes.{FoundDisk}
use Rattle.tw_diskcmd.specs.Faults.{fault_of_service}

-- a service's answer, as the command's result
abbrev pub came_of : Result (List ℕ) ServiceRefusal → Result (List ℕ) CommandFault
came_of (Ok bytes) = Ok bytes
came_of (Err refusal) = Err (fault_of_service refusal)

-- whoever holds the history's authenticator of the earlier step is led by a message
abbrev pub LeadsOn : Question → (bytes : List ℕ) → History → Type 0
LeadsOn (ask.ThreadOut since) bytes h = (m : Message) × Spells message_layout bytes m × Leads sha256 (auth sha256 h since) m
LeadsOn _ bytes h = Unit {0}

module _ (q : Question) where
  -- what is found in a service's pages
  abbrev pub asked_bytes : RootRecord → Image → Found (Result (List ℕ) ServiceRefusal)
  asked_bytes root pages = found_answer sha256 pages root.name root.head false q

  -- what the table says of a service of so many steps, before a page is read
  abbrev pub asked_table : (last : ℕ) → Option ServiceRefusal
  asked_table last = question_refusal false last q

  -- the bytes are what the history makes of the question, and a step of the machine
  pub record AnswersBy (bytes : List ℕ) (h : History) : Type 0 where
    pub makes : Makes sha256 h q bytes
    pub machine : IsStepOf sha256 h (Ask q) (OfBytes bytes) h
    -- whoever holds the history's authenticator of the top accepts a proof; a file is read as the history again
    pub accepted : IsAcceptedFor sha256 h q bytes
    pub leads : LeadsOn q bytes h

  abbrev pub asked_call : History → Call
  asked_call h = Ask q

-- what it comes to
unfoldable pub AskComes : FoundDisk → Question → Result (List ℕ) CommandFault → Type 0
AskComes t q result = ComesTo (asked_bytes q) (TableAnswersOr (Besides q) (asked_table q)) (MachineAnswers (asked_call q) (AnswersBy q)) t result
