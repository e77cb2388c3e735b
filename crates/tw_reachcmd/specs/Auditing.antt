-- `audit`: what is found of a proof that is held against the histories of files, and what the command comes to.
use Rattle.std.specs.Prelude.{◌≡◌, ℕ, List, Option, Result, Ok, Err}
use Rattle.sha2.specs.Sha256.{sha256}
use Rattle.tw_base.specs.declared.history.thread.Thread.{Thread}
use Rattle.tw_base.specs.format.Formats.{Spells}
use Rattle.tw_base.specs.history.Family.{AllSound}
use Rattle.tw_base.specs.history.History.{History}
use Rattle.tw_base.specs.kinds.Faults.{Rose}
use Rattle.tw_base.specs.kinds.Lists.{Each}
use Rattle.tw_outside.specs.Asked.{Asked}
use Rattle.tw_outside.specs.Files.{Files, IsThere, TellsBytes}
use Rattle.tw_text.specs.declared.fault.CommandFault.{CommandFault}
use Rattle.tw_text.specs.declared.fault.CommandFault.TheVariants.{Unreadable, InputFault, NoMemory}
use Rattle.tw_text.specs.declared.refusal.BadInput.TheVariants.{BadLine}
use Rattle.tw_chain.specs.declared.proof.Proof.{Proof}
use Rattle.tw_chain.specs.Proofs.{proof_layout}
use Rattle.tw_audit.specs.declared.finding.AuditFault.{AuditFault}
use Rattle.tw_audit.specs.declared.finding.AuditFault.TheVariants.{NotHeld}
use Rattle.tw_audit.specs.declared.finding.Finding.{Finding}
use Rattle.tw_audit.specs.Answers.{AnswerMeans}
use Rattle.tw_audit.specs.Auditing.{IsAudit}
use Rattle.tw_filecmd.specs.Verifying.{HasAnchors, HasBadLine}
use Rattle.tw_reachcmd.specs.declared.auditing.Audited.{Audited}
use Rattle.tw_reachcmd.specs.declared.auditing.Audited.TheVariants.{Found, Unheld}
use Rattle.tw_reachcmd.specs.Histories.{HoldHistories, HoldNoHistories}

-- what was found, as an audit answers it
abbrev pub finding_answer : Audited → Result Finding AuditFault
finding_answer (Found finding) = Ok finding
finding_answer (Unheld held found) = Err (NotHeld held found)

-- the answer of an audit of all that the proof file holds, under these anchors and against these histories; and what it means
pub record IsAudited (told : Option Files) (proof : List ℕ) (anchors : List Thread) (family : List History) (audited : Audited) : Type 0 where
  pub there : IsThere told proof
  pub answers : (bytes : List ℕ) → TellsBytes told proof bytes → IsAudit sha256 family anchors bytes (finding_answer audited)
  pub means : (bytes : List ℕ) → TellsBytes told proof bytes → (p : Proof) → Spells proof_layout bytes p
      → AnswerMeans sha256 family anchors p (finding_answer audited)

-- what an audit under these anchors comes to: its answer, or the first file that is no history. Want of memory is free
abbrev pub UnderComes : Asked → (proof : List ℕ) → (anchors : List Thread) → (histories : List (List ℕ)) → Result Audited CommandFault → Type 0
UnderComes a proof anchors histories (Ok audited) =
    (family : List History) × (HoldHistories a.told histories family × AllSound family × IsAudited a.told proof anchors family audited)
UnderComes a proof anchors histories (Err (Unreadable bad)) = IsThere a.told proof × HoldNoHistories a.told histories bad
UnderComes a proof anchors histories (Err InputFault) = Rose a.before a.after
UnderComes a proof anchors histories (Err NoMemory) = Unit {0}
UnderComes a proof anchors histories _ = ⊥

-- what it comes to: under the anchors of their file what an audit does; or a bad line of that file, once all are read. Want of memory
-- is free
abbrev pub AuditComes : Asked → (proof anchors : List ℕ) → (histories : List (List ℕ)) → Result Audited CommandFault → Type 0
AuditComes a proof anchors histories (Err (Unreadable (BadLine named number))) =
    (named ≡ anchors) × HasBadLine a.told proof anchors number × Each (IsThere a.told) histories
AuditComes a proof anchors histories (Err InputFault) = Rose a.before a.after
AuditComes a proof anchors histories (Err NoMemory) = Unit {0}
AuditComes a proof anchors histories result = (held : List Thread) × HasAnchors a.told anchors held × UnderComes a proof held histories result
