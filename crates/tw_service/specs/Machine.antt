-- The service as a machine whose state is one sound history: which replies and next states each call has.
use Rattle.std.specs.Prelude.{◌≡◌, ◌⊎◌, ℕ, suc, ◌+◌, ◌-◌, ◌*◌, ◌^◌, ◌<◌, ◌≤◌, List, length, Option, Result, Ok, Err, MatchOption, false}
use Rattle.tw_base.specs.declared.history.content.Content.TheVariants.{Received}
use Rattle.tw_base.specs.declared.history.thread.Key.{Key}
use Rattle.tw_base.specs.declared.history.thread.Thread.{Thread}
use Rattle.tw_base.specs.history.Auth.{auth}
use Rattle.tw_base.specs.history.Entries.{key_of}
use Rattle.tw_base.specs.history.HistoryCodec.{history_bytes}
use Rattle.tw_base.specs.history.History.{History, Step, plus}
use Rattle.tw_base.specs.history.Sound.{IsSound}
use Rattle.tw_base.specs.history.Tree.{entries, tree}
use Rattle.tw_base.specs.format.Formats.{Spells}
use Rattle.tw_archive.specs.Judging.{judged_message}
use Rattle.tw_chain.specs.declared.proof.AbsenceProof.{AbsenceProof}
use Rattle.tw_chain.specs.declared.proof.LinkProof.{LinkProof}
use Rattle.tw_chain.specs.declared.proof.Proof.TheVariants.{Archived, Absent, Linked}
use Rattle.tw_chain.specs.declared.proof.ThreadProof.{ThreadProof}
use Rattle.tw_chain.specs.OwnProofs.{IsAbsenceProofOf, IsLinkProofOf, IsThreadProofOf}
use Rattle.tw_chain.specs.Proofs.{proof_layout}
use Rattle.tw_msg.specs.declared.message.Message.{Message}
use Rattle.tw_msg.specs.declared.receipt.Receipt.{Receipt}
use Rattle.tw_msg.specs.HistoryMessages.{MakesMessage, thread_at_step}
use Rattle.tw_skipproof.specs.HistoryProofs.{MakesExistence}
use Rattle.tw_service.specs.EventStep.{with_events_at}
use Rattle.tw_service.specs.declared.receiving.Reception.{Reception}
use Rattle.tw_service.specs.declared.receiving.Reception.TheVariants.{Refuse, Known, Archive}
use Rattle.tw_base.specs.declared.history.refusal.Refusal.{Refusal}
use Rattle.tw_base.specs.declared.history.refusal.Refusal.TheVariants.{BadPage, DiskFault, Reopen, NoMemory}
use Rattle.tw_answers.specs.Limits.{append_refusal, own_refusal}
use Rattle.tw_service.specs.Mapping.{MakesHigh, MakesLow}
use Rattle.tw_base.specs.declared.history.question.Question.{Question}
use Rattle.tw_base.specs.declared.history.question.Question.TheVariants as ask
use Rattle.tw_service.specs.Questions.{history_refusal}
use Rattle.tw_service.specs.Tops.{top_or_last}
use Rattle.tw_service.specs.Receiving.{reception, refuse_or}
use Rattle.tw_service.specs.Stands.{greatest_time}

pub data Call : Type 0 where
  Ask : Question → Call
  Append : (events : List (List ℕ)) (time : Option ℕ) → Call
  Receive : (message : Message) (time : Option ℕ) → Call
  CountSteps : Call
  TellHead : Call
  TellName : Call

pub data Reply : Type 0 where
  OfBytes : List ℕ → Reply
  OfThread : Thread → Reply
  OfReceipt : Receipt → Reply
  OfNumber : ℕ → Reply
  OfName : List ℕ → Reply
  Refused : Refusal → Reply

-- the thread of the last step; of a history of no step it has step 0 and the authenticator of its name
abbrev pub last_thread : (dig : List ℕ → List ℕ) → History → Thread
last_thread dig h = record { from = h.name; step = length h.steps; auth = auth dig h (length h.steps) }

-- the history with one more step that archives the thread, with this time or none: it adds any nodes, and has any root
abbrev pub Archives : Thread → (time : Option ℕ) → (h next : History) → Type 0
Archives t time h next = (s : Step) × (next ≡ plus h s) × (s.content ≡ Received t) × (s.time ≡ time)

-- what the table of `append` says of a history
abbrev pub append_table : History → List (List ℕ) → (time : Option ℕ) → Option Refusal
append_table h events time = append_refusal false (length h.steps) (greatest_time h) events time

-- so many nodes above a place in a tree of so many entries, whose pages have some number of levels: at most 9 for each level, and at most 99;
-- and each level more takes 13 times the entries, so that of no entries there is no node
abbrev pub IsFewNodes : (entries nodes : ℕ) → Type 0
IsFewNodes entries nodes = (levels : ℕ) × (nodes ≤ 9 * levels) × (nodes ≤ 99) × (0 < levels → 2 * 13 ^ (levels - 1) ≤ entries + 1)

module _ (dig : List ℕ → List ℕ) where
  -- the receipt by which a step of the history tells that it received the thread
  abbrev pub receipt_by : History → (step : ℕ) → Thread → Receipt
  receipt_by h step t = record { by = thread_at_step dig h step; thread = t }

  -- what becomes of a message by the archive of the history
  abbrev pub received_as : History → Message → (time : Option ℕ) → Reception
  received_as h m time =
      refuse_or (own_refusal false h.name m.thread.from) (reception (length h.steps) (greatest_time h) time (judged_message dig (entries (tree h (length h.steps))) m))

  -- the next state of a call that isn't refused; a message may be one that is known, and then the state stays
  abbrev pub NextOf : Call → (h next : History) → Type 0
  NextOf (Append events time) h next = next ≡ with_events_at h events time
  NextOf (Receive m time) h next = (next ≡ h) ⊎ ((received_as h m time ≡ Archive) × Archives m.thread time h next × IsSound next)
  NextOf (Ask q) h next = next ≡ h
  NextOf CountSteps h next = next ≡ h
  NextOf TellHead h next = next ≡ h
  NextOf TellName h next = next ≡ h

  -- the machine's reply to a message and its next state: the receipt of the step that received the thread, where it is known; else of the next
  -- step, with which the history is sound
  abbrev pub RepliesTo : (h : History) → Message → (time : Option ℕ) → Reply → (next : History) → Reception → Type 0
  RepliesTo h m time reply next (Refuse refusal) = (next ≡ h) × (reply ≡ Refused refusal)
  RepliesTo h m time reply next (Known archived) = (next ≡ h) × (reply ≡ OfReceipt (receipt_by h archived m.thread))
  RepliesTo h m time reply next Archive =
      Archives m.thread time h next × IsSound next × (reply ≡ OfReceipt (receipt_by next (suc (length h.steps)) m.thread))

  -- the bytes spell the history's own proof, under this top, that a step up to this one received a thread of the key, and that none did
  abbrev pub MakesThread : History → (step : ℕ) → Key → (top : ℕ) → (bytes : List ℕ) → Type 0
  MakesThread h step key top bytes = (p : ThreadProof) × Spells proof_layout bytes (Archived p) × IsThreadProofOf dig h step top p × (key_of p.entry ≡ key)

  abbrev pub MakesAbsence : History → (step : ℕ) → Key → (top : ℕ) → (bytes : List ℕ) → Type 0
  MakesAbsence h step key top bytes = (p : AbsenceProof) × Spells proof_layout bytes (Absent p) × IsAbsenceProofOf dig h step top p × (p.key ≡ key)

  -- the bytes spell the history's own proof of the step's authenticator, under this top
  abbrev pub MakesLink : History → (step top : ℕ) → (bytes : List ℕ) → Type 0
  MakesLink h step top bytes = (p : LinkProof) × Spells proof_layout bytes (Linked p) × IsLinkProofOf dig h step top p

  -- the bytes are what the history makes of the question
  unfoldable pub Makes : History → Question → (bytes : List ℕ) → Type 0
  Makes h (ask.Event step index top) bytes = MakesExistence dig h step index (top_or_last top (length h.steps)) bytes
  Makes h (ask.Thread step key top) bytes = MakesThread h step key (top_or_last top (length h.steps)) bytes
  Makes h (ask.Absent step key top) bytes = MakesAbsence h step key (top_or_last top (length h.steps)) bytes
  Makes h (ask.Link step top) bytes = MakesLink h step (top_or_last top (length h.steps)) bytes
  Makes h (ask.Low step peer top) bytes = MakesLow dig h step peer (top_or_last top (length h.steps)) bytes
  Makes h (ask.High step peer top) bytes = MakesHigh dig h step peer (top_or_last top (length h.steps)) bytes
  Makes h (ask.ThreadOut since) bytes = MakesMessage dig h since bytes
  Makes h ask.Export bytes = bytes ≡ history_bytes h

  -- the machine in the state h answers the call with this reply and goes on in the next state
  abbrev pub IsStepOf : (h : History) → Call → Reply → (next : History) → Type 0
  IsStepOf h (Append events time) reply next =
      MatchOption (append_table h events time)
      (NextOf (Append events time) h next × (reply ≡ OfThread (last_thread dig next)))
      (λ refusal. (next ≡ h) × (reply ≡ Refused refusal))
  IsStepOf h (Receive m time) reply next = RepliesTo h m time reply next (received_as h m time)
  IsStepOf h (Ask q) reply next =
      (next ≡ h) × MatchOption (history_refusal h q)
      ((bytes : List ℕ) × Makes h q bytes × (reply ≡ OfBytes bytes))
      (λ refusal. reply ≡ Refused refusal)
  IsStepOf h CountSteps reply next = (next ≡ h) × (reply ≡ OfNumber (length h.steps))
  IsStepOf h TellHead reply next = (next ≡ h) × (reply ≡ OfThread (last_thread dig h))
  IsStepOf h TellName reply next = (next ≡ h) × (reply ≡ OfName h.name)

  -- the call's answer is a step of the machine to a state that is now served; a disk fault and want of memory excepted, of
  -- which want of memory leaves the state
  abbrev pub AnswersByMachine : {T : Type 0} → (h : History) → Call → (T → Reply) → Result T Refusal → (History → Type 0) → Type 0
  AnswersByMachine h call reply (Ok value) Serves = (next : History) × IsStepOf h call (reply value) next × Serves next
  AnswersByMachine h call reply (Err DiskFault) Serves = Unit {0}
  AnswersByMachine h call reply (Err NoMemory) Serves = Serves h
  AnswersByMachine h call reply (Err (BadPage page)) Serves = ⊥
  AnswersByMachine h call reply (Err Reopen) Serves = ⊥
  AnswersByMachine h call reply (Err refusal) Serves = IsStepOf h call (Refused refusal) h × Serves h
