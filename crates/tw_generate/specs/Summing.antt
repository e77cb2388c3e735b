-- What is told of the three histories: by a proof that is claimed, a map and an audit.
use Rattle.std.specs.Prelude.{◌≡◌, ℕ, ◌+◌, ◌-◌, List, [], ◌∷◌, length, Bool, true, false, Option, Some, Ok, nat_lt, MatchBool}
use Rattle.tw_audit.specs.Auditing.{IsAudit}
use Rattle.tw_audit.specs.declared.finding.Finding.{Finding}
use Rattle.tw_audit.specs.declared.finding.Finding.TheVariants.{Stands, Clash, NotAccepted}
use Rattle.tw_base.specs.declared.history.question.Question.{Question}
use Rattle.tw_base.specs.declared.history.question.Question.TheVariants as ask
use Rattle.tw_base.specs.declared.history.report.Report.{Report}
use Rattle.tw_base.specs.declared.history.thread.Entry.{Entry}
use Rattle.tw_base.specs.declared.history.thread.Thread.{Thread}
use Rattle.tw_base.specs.format.Formats.{Spells}
use Rattle.tw_base.specs.history.Entries.{key_of}
use Rattle.tw_base.specs.history.History.{History, received}
use Rattle.tw_chain.specs.Proofs.{proof_bytes, proof_layout}
use Rattle.tw_chain.specs.Reasons.{IsVerdict}
use Rattle.tw_chain.specs.declared.proof.Proof.{Proof}
use Rattle.tw_chain.specs.declared.verdict.Verdict.TheVariants.{Yes}
use Rattle.tw_join.specs.Joining.{Joins}
use Rattle.tw_service.specs.Machine.{IsStepOf, last_thread}
use Rattle.tw_service.specs.Machine.Call.{Ask}
use Rattle.tw_service.specs.Machine.Reply.{OfBytes}
use Rattle.tw_tmap.specs.Bounds.{first_from}
use Rattle.tw_tmap.specs.Checking.{map_verdict}
use Rattle.tw_tmap.specs.MapFiles.{high_layout, low_layout}
use Rattle.tw_tmap.specs.declared.map_file.HighFile.{HighFile}
use Rattle.tw_tmap.specs.declared.map_file.LowFile.{LowFile}
use Rattle.tw_tmap.specs.declared.map_verdict.MapVerdict.TheVariants.{Yes as Between}
use Rattle.tw_generate.specs.Schedules.{Trio}
use Rattle.tw_generate.specs.declared.summary.Summary.{Summary}

abbrev pub last : History → ℕ
last h = length h.steps

abbrev pub received_by : History → List Entry
received_by h = received h (last h)

abbrev pub trio_family : Trio → List History
trio_family t = t.alpha ∷ t.beta ∷ t.gamma ∷ []

-- the question for the first event of gamma's last step, and those for the map of alpha's last step against gamma
abbrev pub last_event : Trio → Question
last_event t = ask.Event (last t.gamma) 0 (Some (last t.gamma))

abbrev pub low_side : Trio → Question
low_side t = ask.Low (last t.alpha) t.gamma.name (Some (last t.alpha))

abbrev pub high_side : Trio → Question
high_side t = ask.High (last t.alpha) t.alpha.name (Some (last t.gamma))

-- whether the audit tells that the proof stands; else that texts clash
abbrev pub TellsStands : Finding → Bool → Type 0
TellsStands (Stands report) stands = stands ≡ true
TellsStands (Clash one other digest) stands = stands ≡ false
TellsStands (NotAccepted reason) stands = ⊥

-- the bytes of what the parts join to
abbrev pub IsJoined : List Proof → List ℕ → Type 0
IsJoined parts bytes = (whole : Proof) × Joins parts (Ok whole) × (bytes ≡ proof_bytes whole)

module _ (dig : List ℕ → List ℕ) where
  abbrev pub trio_heads : Trio → List Thread
  trio_heads t = last_thread dig t.alpha ∷ last_thread dig t.beta ∷ last_thread dig t.gamma ∷ []

  -- the bytes are the history's answer to the question
  abbrev pub IsQuestionAnswered : History → Question → List ℕ → Type 0
  IsQuestionAnswered h q bytes = IsStepOf dig h (Ask q) (OfBytes bytes) h

  -- the proof is
  abbrev pub IsPartAsked : History → Question → Proof → Type 0
  IsPartAsked h q part = (bytes : List ℕ) × IsQuestionAnswered h q bytes × Spells proof_layout bytes part

  -- the parts of the proof that alpha's first event precedes gamma's last one, by a thread of alpha that beta received and one of beta
  -- that gamma received
  pub record AreParts (t : Trio) (of_alpha of_beta : Entry) (parts : List Proof) : Type 0 where
    pub second : Proof
    pub is_second : IsPartAsked t.gamma (last_event t) second
    pub at_gamma : Proof
    pub is_at_gamma : IsPartAsked t.gamma (ask.Thread (last t.gamma - 1) (key_of of_beta) (Some (last t.gamma))) at_gamma
    pub in_beta : Proof
    pub is_in_beta : IsPartAsked t.beta (ask.Link of_beta.thread.step (Some (last t.beta))) in_beta
    pub at_beta : Proof
    pub is_at_beta : IsPartAsked t.beta (ask.Thread of_beta.thread.step (key_of of_alpha) (Some (last t.beta))) at_beta
    pub in_alpha : Proof
    pub is_in_alpha : IsPartAsked t.alpha (ask.Link of_alpha.thread.step (Some (last t.alpha))) in_alpha
    pub first : Proof
    pub is_first : IsPartAsked t.alpha (ask.Event 1 0 (Some of_alpha.thread.step)) first
    pub parts_are : parts ≡ second ∷ at_gamma ∷ in_beta ∷ at_beta ∷ in_alpha ∷ first ∷ []

  -- the proof that alpha's first event precedes gamma's last one, over beta's first thread of alpha and gamma's first thread of beta of
  -- the step that archived it or a later one
  pub record IsPrecedence (t : Trio) (bytes : List ℕ) : Type 0 where
    pub of_alpha : Entry
    pub is_of_alpha : first_from t.alpha.name 1 (received_by t.beta) ≡ Some of_alpha
    pub of_beta : Entry
    pub is_of_beta : first_from t.beta.name of_alpha.archived (received_by t.gamma) ≡ Some of_beta
    pub parts : List Proof
    pub are_parts : AreParts t of_alpha of_beta parts
    pub joined : IsJoined parts bytes

  -- the proof that is claimed after so many rounds
  abbrev pub IsClaimed : Trio → (rounds : ℕ) → List ℕ → Type 0
  IsClaimed t rounds bytes =
      MatchBool (nat_lt rounds 50) (IsQuestionAnswered t.gamma (last_event t) bytes) (IsPrecedence t bytes)

  -- the bytes spell map files that tell these bounds under the anchors
  pub record IsFileMap (anchors : List Thread) (low_bytes high_bytes : List ℕ) (low : ℕ) (high : Option ℕ) : Type 0 where
    pub low_file : LowFile
    pub low_spelled : Spells low_layout low_bytes low_file
    pub high_file : HighFile
    pub high_spelled : Spells high_layout high_bytes high_file
    pub upto : ℕ
    pub is_accepted : map_verdict dig anchors low_file high_file ≡ Between low high upto

  -- the map of alpha's last step against gamma, under the heads
  pub record IsMap (t : Trio) (low : ℕ) (high : Option ℕ) : Type 0 where
    pub low_bytes : List ℕ
    pub low_made : IsQuestionAnswered t.alpha (low_side t) low_bytes
    pub high_bytes : List ℕ
    pub high_made : IsQuestionAnswered t.gamma (high_side t) high_bytes
    pub files : IsFileMap (trio_heads t) low_bytes high_bytes low high

  -- what is told of the histories after so many rounds, under the heads: by the strict verdict on the proof that is claimed, by the map,
  -- and by the audit of the proof against the histories
  pub record IsSummaryOf (t : Trio) (rounds : ℕ) (told : Summary) : Type 0 where
    pub proof : List ℕ
    pub claimed : IsClaimed t rounds proof
    pub report : Report
    pub accepted : IsVerdict dig (trio_heads t) true proof (Yes report)
    pub hops : told.hops ≡ length report.hops
    pub map : IsMap t told.low told.high
    pub finding : Finding
    pub audited : IsAudit dig (trio_family t) (trio_heads t) proof (Ok finding)
    pub stands : TellsStands finding told.stands
    pub alpha : told.alpha ≡ last t.alpha
    pub beta : told.beta ≡ last t.beta
    pub gamma : told.gamma ≡ last t.gamma
    pub threads : told.threads ≡ length (received_by t.alpha) + length (received_by t.beta) + length (received_by t.gamma)
