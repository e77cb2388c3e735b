-- From what was read of a proof, anchors and histories to what an audit comes to.
use Rattle.std.proofs.Common.{◌≡◌, ℕ, ◌+◌, ◌≤◌, List, ◌++◌, length, drop, refl, sym, subst, inl, inr, false}
use Rattle.std.specs.Prelude.{Option, Some, None, IfSome, Result, Ok, Err}
use Rattle.sha2.specs.Sha256.{sha256}
use Rattle.sha2.proofs.Facts256.{length-sha256}
use Rattle.tw_base.specs.declared.history.thread.Thread.{Thread}
use Rattle.tw_base.specs.format.Formats.{IsFront}
use Rattle.tw_base.specs.history.Family.{AllSound}
use Rattle.tw_base.specs.history.History.{History}
use Rattle.tw_base.specs.kinds.HasherSteps.{bytes-sha256}
use Rattle.tw_base.specs.declared.kinds.failure.InputFault.{InputFault as ReadingFault}
use Rattle.tw_base.specs.declared.kinds.failure.InputFault.TheVariants.{Failed, NoMemory as WantedMemory}
use Rattle.tw_base.specs.kinds.Faults.{Rose}
use Rattle.tw_base.specs.kinds.Lists.{Each}
use Rattle.tw_outside.specs.Asked.{Asked, asked}
use Rattle.tw_outside.specs.Files.{Files, IsReadTo, IsThere, TellsBytes}
use Rattle.tw_outside.proofs.Counting.{Rose-earlier}
use Rattle.tw_text.specs.Faults.{fault_of_input}
use Rattle.tw_text.specs.declared.fault.CommandFault.{CommandFault}
use Rattle.tw_text.specs.declared.fault.CommandFault.TheVariants.{InputFault, NoMemory, Unreadable}
use Rattle.tw_text.specs.declared.refusal.BadInput.{BadInput}
use Rattle.tw_text.specs.declared.refusal.BadInput.TheVariants.{BadByte, BadLine, Unsound}
use Rattle.tw_chain.specs.Proofs.{proof_layout}
use Rattle.tw_chain.specs.declared.verdict.Verdict.TheVariants.{No}
use Rattle.tw_audit.specs.declared.finding.AuditFault.{AuditFault}
use Rattle.tw_audit.specs.declared.finding.AuditFault.TheVariants as fault
use Rattle.tw_audit.specs.declared.finding.Finding.{Finding}
use Rattle.tw_audit.specs.declared.finding.Finding.TheVariants.{Clash, NotAccepted, Stands}
use Rattle.tw_audit.specs.Auditing.{IsAudit}
use Rattle.tw_audit.proofs.AnswerLaws.{answer-means}
use Rattle.tw_filecmd.specs.Verifying.{HasAnchors}
use Rattle.tw_filecmd.proofs.AnchorFronts.{file_limit}
use Rattle.tw_filecmd.proofs.FormatFronts.{nothing_here}
use Rattle.tw_filecmd.proofs.Judging.{behind}
use Rattle.tw_filecmd.proofs.ProofFronts.{verdict_behind}
use Rattle.tw_reachcmd.specs.declared.auditing.Audited.{Audited}
use Rattle.tw_msg.specs.AnchorsFile.{IsNoAnchors}
use Rattle.tw_reachcmd.specs.declared.histories.Family.{Family}
use Rattle.tw_reachcmd.specs.Auditing.{AuditComes, IsAudited, UnderComes, finding_answer}
use Rattle.tw_reachcmd.specs.Histories.{HoldHistories, HoldNoHistories, IsOfFiles}
use Rattle.tw_reachcmd.specs.Reading.{AreHistoriesRead, AreSoFar, IsReadAudited}
use Rattle.tw_reachcmd.specs.Fronts.{IsFarFront}
use Rattle.tw_reachcmd.proofs.EvidenceFiles.{bad_line_of}

-- ---- the proof

-- an audit of the same bytes against the same histories
pub audit_same : (histories family : List History) (anchors : List Thread) (bytes front : List ℕ)
    (r : Result Finding AuditFault) → histories ≡ family → bytes ≡ front
    → IsAudit sha256 histories anchors bytes r → IsAudit sha256 family anchors front r
audit_same histories family anchors bytes front r same is audit =
    subst (λ (hs : List History). IsAudit sha256 hs anchors front r) same
    (subst (λ (b : List ℕ). IsAudit sha256 histories anchors b r) is audit)

module _ (family : List History) (anchors : List Thread) where
  answer_behind : (front more : List ℕ) → (IsFront proof_layout front → ⊥) → (r : Result Finding AuditFault)
      → IsAudit sha256 family anchors front r → IsAudit sha256 family anchors (front ++ more) r
  answer_behind front more broken (Ok (NotAccepted reason)) is = verdict_behind front more broken sha256 anchors false
      (No reason) is
  answer_behind front more broken (Err fault.NoMemory) is = tt
  answer_behind front more broken (Ok (Stands report)) is =
      absurd (nothing_here proof_layout front more broken is.0.0 is.0.1)
  answer_behind front more broken (Ok (Clash one other digest)) is =
      absurd (nothing_here proof_layout front more broken is.0.0 is.0.1)
  answer_behind front more broken (Err (fault.NotHeld held found)) is =
      absurd (nothing_here proof_layout front more broken is.0.0 is.0.1)

  -- what an audit of first bytes answers, at which no proof goes on or which are all, is what one of the file does
  pub answer_of_file : (told : Option Files) (file front bytes : List ℕ) → IsFarFront told file front
      → TellsBytes told file bytes → (r : Result Finding AuditFault)
      → IsAudit sha256 family anchors front r → IsAudit sha256 family anchors bytes r
  answer_of_file told file front bytes far tells r is = elim (far.far bytes tells) [
    | inl whole ↦ subst (λ b. IsAudit sha256 family anchors b r) whole is
    | inr broken ↦
        subst (λ b. IsAudit sha256 family anchors b r) (behind front bytes (far.of_file bytes tells))
        (answer_behind front (drop (length front) bytes) broken r is)
  ]

  -- the audit of the file, and what its answer means
  pub audited_of : (told : Option Files) (proof front : List ℕ) (audited : Audited) → IsThere told proof
      → IsFarFront told proof front → AllSound family
      → IsAudit sha256 family anchors front (finding_answer audited) → IsAudited told proof anchors family audited
  audited_of told proof front audited there far sound is = record {
    there = there;
    answers = λ bytes tells. answer_of_file told proof front bytes far tells (finding_answer audited) is;
    means = λ bytes tells p spelled.
        answer-means sha256 length-sha256 bytes-sha256 family anchors bytes p spelled sound (finding_answer audited)
        (answer_of_file told proof front bytes far tells (finding_answer audited) is);
  }

-- ---- the histories

module _ (told : Option Files) (files : List (List ℕ)) (f : Family) (there : Each (IsThere told) files)
    (are : AreHistoriesRead told files f) where
  pub hold_histories : (family : List History) → family ≡ f.histories → f.bad ≡ None → HoldHistories told files family
      × AllSound family
  hold_histories family same none = subst (λ hs. HoldHistories told files hs × AllSound hs) (sym same) (
    record {
      there = there;
      are = λ all tells. subst (λ (bad : Option BadInput). AreSoFar files all f.histories bad) none
          (are.so_far all tells).1;
    },
    are.sound,
  )

  pub hold_none : (bad : BadInput) → f.bad ≡ Some bad → HoldNoHistories told files bad
  hold_none bad is = record {
    there = there;
    of_files = subst (λ (b : Option BadInput). IfSome b (IsOfFiles files)) is are.of_files;
    is_bad = λ all tells. subst (λ (b : Option BadInput). AreSoFar files all f.histories b) is (are.so_far all tells).1;
  }

-- ---- the command

-- of what was read of the proof and of the histories
pub under_of : (a : Asked) (proof : List ℕ) (anchors : List Thread) (histories : List (List ℕ)) (front : List ℕ)
    (f : Family) (r : Result Audited CommandFault)
    → IsThere a.told proof → IsFarFront a.told proof front → Each (IsThere a.told) histories → AreHistoriesRead a.told
    histories f
    → IsReadAudited anchors front f r → UnderComes a proof anchors histories r
under_of a proof anchors histories front f (Ok audited) there far each are comes =
    let held = hold_histories a.told histories f each are f.histories refl comes.0 in
    (f.histories, (held.0, held.1, audited_of f.histories anchors a.told proof front audited there far held.1 comes.1))
under_of a proof anchors histories front f (Err (Unreadable bad)) there far each are comes =
    (there, hold_none a.told histories f each are bad comes)
under_of a proof anchors histories front f (Err NoMemory) there far each are comes = tt
under_of a proof anchors histories front f _ there far each are comes = absurd comes

-- where a file couldn't be read
by_fault : (Comes : CommandFault → Type 0) (why : ReadingFault) (came : CommandFault) → (why ≡ Failed → Comes InputFault)
    → Comes NoMemory → came ≡ fault_of_input why → Comes came
by_fault Comes Failed came failed memory is = subst Comes (sym is) (failed refl)
by_fault Comes WantedMemory came failed memory is = subst Comes (sym is) memory

pub under_failed : (a : Asked) (proof : List ℕ) (anchors : List Thread) (histories : List (List ℕ)) (why : ReadingFault)
    (came : CommandFault) → (why ≡ Failed → Rose a.before a.after) → came ≡ fault_of_input why
    → UnderComes a proof anchors histories (Err came)
under_failed a proof anchors histories why came rose is =
    by_fault (λ f. UnderComes a proof anchors histories (Err f)) why came rose tt is

pub audit_failed : (a : Asked) (proof anchors : List ℕ) (histories : List (List ℕ)) (why : ReadingFault)
    (came : CommandFault) → (why ≡ Failed → Rose a.before a.after) → came ≡ fault_of_input why
    → AuditComes a proof anchors histories (Err came)
audit_failed a proof anchors histories why came rose is =
    by_fault (λ f. AuditComes a proof anchors histories (Err f)) why came rose tt is

-- since an earlier moment, of inputs that tell the same, under the anchors of a file
pub audits_since : (told now : Option Files) (before begun after : ℕ) (proof anchors : List ℕ) (held : List Thread)
    (histories : List (List ℕ))
    (r : Result Audited CommandFault) → now ≡ told → before ≤ begun → HasAnchors told anchors held
    → UnderComes (asked now begun after) proof held histories r
    → AuditComes (asked told before after) proof anchors histories r
audits_since told now before begun after proof anchors held histories r same le has comes =
    by r (subst (λ t. UnderComes (asked t begun after) proof held histories r) same comes)
  where
    by : (r : Result Audited CommandFault) → UnderComes (asked told begun after) proof held histories r
        → AuditComes (asked told before after) proof anchors histories r
    by (Ok audited) comes = (held, has, comes)
    by (Err (Unreadable (BadByte named place))) comes = (held, has, comes)
    by (Err (Unreadable (Unsound named step rule))) comes = (held, has, comes)
    by (Err (Unreadable (BadLine named number))) comes = absurd comes.1.of_files
    by (Err InputFault) comes = Rose-earlier before begun after le comes
    by (Err NoMemory) comes = tt
    by _ comes = absurd comes

-- a bad line, once all are read
pub refuses_line : (a : Asked) (proof anchors all : List ℕ) (histories : List (List ℕ)) (fault : CommandFault)
    → IsThere a.told proof → IsThere a.told anchors
    → IsReadTo a.told anchors file_limit all → Each (IsThere a.told) histories → IsNoAnchors anchors all fault
    → AuditComes a proof anchors histories (Err fault)
refuses_line a proof anchors all histories (Unreadable (BadLine named number)) proof_there there read each is =
    (is.0, bad_line_of a.told anchors all there read proof number proof_there is.1, each)
refuses_line a proof anchors all histories NoMemory proof_there there read each is = tt
refuses_line a proof anchors all histories (Unreadable (BadByte named place)) proof_there there read each is = absurd is
refuses_line a proof anchors all histories (Unreadable (Unsound named step rule)) proof_there there read each is =
    absurd is
refuses_line a proof anchors all histories _ proof_there there read each is = absurd is
