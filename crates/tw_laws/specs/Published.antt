-- The threads of its own history that a service publishes.
use Rattle.std.specs.Prelude.{◌≡◌, ℕ, ◌-◌, ◌≤◌, List, [], ◌∷◌, length}
use Rattle.std.specs.Option.{option_map_or}
use Rattle.tw_base.specs.declared.history.thread.Thread.{Thread}
use Rattle.tw_base.specs.format.Formats.{Spells}
use Rattle.tw_base.specs.history.Auth.{auth}
use Rattle.tw_base.specs.history.History.{History}
use Rattle.tw_base.specs.history.HistoryCodec.{history_layout}
use Rattle.tw_base.specs.kinds.Lists.{In}
use Rattle.tw_chain.specs.declared.proof.Proof.{Proof}
use Rattle.tw_chain.specs.declared.proof.Proof.TheVariants.{Exists, Precedes, Archived, Absent, Linked}
use Rattle.tw_chain.specs.Proofs.{proof_layout}
use Rattle.tw_msg.specs.declared.message.Message.{Message}
use Rattle.tw_msg.specs.Messages.{message_layout}
use Rattle.tw_base.specs.declared.history.question.Question.{Question}
use Rattle.tw_base.specs.declared.history.question.Question.TheVariants as ask
use Rattle.tw_service.specs.Machine.{Call, Reply}
use Rattle.tw_service.specs.Machine.Call.{Append, Ask, Receive, CountSteps, TellHead, TellName}
use Rattle.tw_service.specs.Machine.Reply.{OfBytes, OfThread, OfReceipt, OfNumber, OfName, Refused}
use Rattle.tw_skipproof.specs.declared.existence.Part.{Part}
use Rattle.tw_tmap.specs.declared.map_file.HighFile.{HighFile}
use Rattle.tw_tmap.specs.declared.map_file.LowFile.{LowFile}
use Rattle.tw_tmap.specs.Checking.{low_file_part}
use Rattle.tw_tmap.specs.MapFiles.{high_layout, low_layout}

-- the thread of the step before the one that the part opens
abbrev pub thread_before : Part → Thread
thread_before p = record { from = p.service; step = p.step - 1; auth = p.opening.prev }

-- the threads of the prover's own history that stand in a proof; the one of the step that a part opens is computed, and isn't among them. No
-- service makes a proof from event to event
abbrev pub own_threads : Proof → List Thread
own_threads (Exists p) = thread_before p.at ∷ []
own_threads (Precedes p) = []
own_threads (Archived p) = thread_before p.at ∷ []
own_threads (Absent p) = thread_before p.at ∷ []
own_threads (Linked p) = record { from = p.service; step = p.step; auth = p.auth } ∷ []

-- those that stand in the map files of a service
abbrev pub low_threads : LowFile → List Thread
low_threads f = option_map_or (λ p. thread_before (low_file_part f p) ∷ []) f.shown []

abbrev pub high_threads : HighFile → List Thread
high_threads f = record { from = f.service; step = f.top - 1; auth = f.opening.prev } ∷ []

-- the thread is one of the prover's own history that stands in the proof that these bytes are, and in the map file, low or high
abbrev pub IsInProof : (bytes : List ℕ) → Thread → Type 0
IsInProof bytes t = (p : Proof) × Spells proof_layout bytes p × In t (own_threads p)

abbrev pub IsInLow : (bytes : List ℕ) → Thread → Type 0
IsInLow bytes t = (f : LowFile) × Spells low_layout bytes f × In t (low_threads f)

abbrev pub IsInHigh : (bytes : List ℕ) → Thread → Type 0
IsInHigh bytes t = (f : HighFile) × Spells high_layout bytes f × In t (high_threads f)

-- the thread is one of the history: of one of its steps, or of step 0, with the authenticator of that step
pub record IsThreadOf (dig : List ℕ → List ℕ) (h : History) (t : Thread) : Type 0 where
  pub from : t.from ≡ h.name
  pub within : t.step ≤ length h.steps
  pub auth : t.auth ≡ auth dig h t.step

-- the bytes are the file of a history of which the thread is one: whoever has them has the authenticators of all its steps
abbrev pub IsInFile : (dig : List ℕ → List ℕ) → (bytes : List ℕ) → Thread → Type 0
IsInFile dig bytes t = (h : History) × Spells history_layout bytes h × IsThreadOf dig h t

-- the thread is that of the message that the bytes are
abbrev pub IsInMessage : (bytes : List ℕ) → Thread → Type 0
IsInMessage bytes t = (m : Message) × Spells message_layout bytes m × (t ≡ m.thread)

-- the thread stands in the bytes that answer the question
abbrev pub IsInAnswer : (dig : List ℕ → List ℕ) → Question → (bytes : List ℕ) → Thread → Type 0
IsInAnswer dig (ask.Low step peer top) bytes t = IsInLow bytes t
IsInAnswer dig (ask.High step peer top) bytes t = IsInHigh bytes t
IsInAnswer dig (ask.ThreadOut since) bytes t = IsInMessage bytes t
IsInAnswer dig ask.Export bytes t = IsInFile dig bytes t
IsInAnswer dig _ bytes t = IsInProof bytes t

-- the reply publishes the thread
abbrev pub Publishes : Reply → Thread → Type 0
Publishes (OfThread thread) t = t ≡ thread
Publishes (OfReceipt receipt) t = t ≡ receipt.by
Publishes (OfBytes bytes) t = ⊥
Publishes (OfNumber number) t = ⊥
Publishes (OfName name) t = ⊥
Publishes (Refused refusal) t = ⊥

-- so does the call by its reply; the bytes of an answer are of the kind that was asked for
abbrev pub PublishesBy : (dig : List ℕ → List ℕ) → Call → Reply → Thread → Type 0
PublishesBy dig (Ask q) (OfBytes bytes) t = IsInAnswer dig q bytes t
PublishesBy dig _ reply t = Publishes reply t

-- the call has replies of this kind
abbrev pub IsReplyTo : Call → Reply → Type 0
IsReplyTo (Append events time) (OfThread thread) = Unit {0}
IsReplyTo (Receive message time) (OfReceipt receipt) = Unit {0}
IsReplyTo (Ask q) (OfBytes bytes) = Unit {0}
IsReplyTo CountSteps (OfNumber number) = Unit {0}
IsReplyTo TellHead (OfThread thread) = Unit {0}
IsReplyTo TellName (OfName name) = Unit {0}
IsReplyTo _ _ = ⊥
