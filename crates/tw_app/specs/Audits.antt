-- What a run of an audit says by its status, and which answer comes where the inputs tell the bytes of all its files.
use Rattle.std.specs.Prelude.{◌≡◌, ◌⊎◌, ℕ, List, [], false, Option, Some}
use Rattle.sha2.specs.Sha256.{sha256}
use Rattle.tw_base.specs.declared.history.report.Reason.{Reason}
use Rattle.tw_base.specs.declared.history.report.Report.{Report}
use Rattle.tw_base.specs.declared.history.thread.Thread.{Thread}
use Rattle.tw_base.specs.declared.kinds.limits.TheConstants.{MOST_HISTORY_BYTES}
use Rattle.tw_base.specs.format.Formats.{Spells}
use Rattle.tw_base.specs.history.Family.{AllSound, HasThreads}
use Rattle.tw_base.specs.history.History.{History}
use Rattle.tw_base.specs.kinds.Clash.{Clash}
use Rattle.tw_outside.specs.Files.{Files, IsThere, TellsBytes}
use Rattle.tw_outside.specs.TakenBytes.{Appends}
use Rattle.tw_words.specs.CommandLine.{command_of}
use Rattle.tw_words.specs.declared.command.Command.{Command}
use Rattle.tw_words.specs.declared.command.Command.TheVariants.{Audit}
use Rattle.tw_text.specs.Reports.{rejected_text, stands_text}
use Rattle.tw_chain.specs.declared.proof.Proof.{Proof}
use Rattle.tw_chain.specs.Accepting.{Accepts, IsAccepted, held, report_of}
use Rattle.tw_chain.specs.Proofs.{proof_layout}
use Rattle.tw_chain.specs.Reasons.{IsLowest}
use Rattle.tw_audit.specs.Answers.{IsClashPair, ReportHolds, TextsClash, ThreadMissing}
use Rattle.tw_audit.specs.Auditing.{audited_texts}
use Rattle.tw_filecmd.specs.Verifying.{HasAnchors}
use Rattle.tw_reachcmd.specs.Anchors.{AreAnchorsOf}
use Rattle.tw_reachcmd.specs.AuditTexts.{clash_text, unheld_text}
use Rattle.tw_reachcmd.specs.Held.{TellAll}
use Rattle.tw_reachcmd.specs.Histories.{AreHistories, HoldHistories}
use Rattle.tw_app.specs.Around.{Around, Writes}
use Rattle.tw_app.specs.Running.{IsHindered}

-- the words ask for an audit
abbrev pub AsksAudit : Command → Type 0
AsksAudit (Audit proof anchors histories) = Unit {0}
AsksAudit _ = ⊥

-- ---- what status 0 and status 10 say

-- words that ask for an audit, and what of the files it says this of: the files are there; where the inputs tell their bytes, the
-- anchors file has these anchors and no bad line, the others are these histories, which are sound, and P holds of the proof
-- that the proof file's bytes spell
pub record AuditsFiles (told : Option Files) (words : List (List ℕ)) (P : (family : List History) (anchors : List Thread) → Proof → Type 0) : Type 0 where
  pub proof : List ℕ
  pub file : List ℕ
  pub histories : List (List ℕ)
  pub anchors : List Thread
  pub family : List History
  pub is_command : command_of words ≡ Some (Audit proof file histories)
  pub has_anchors : HasAnchors told file anchors
  pub hold_histories : HoldHistories told histories family
  pub sound : AllSound family
  pub there : IsThere told proof
  pub spelled : (bytes : List ℕ) → TellsBytes told proof bytes → (p : Proof) × Spells proof_layout bytes p
  pub says : (bytes : List ℕ) → TellsBytes told proof bytes → (p : Proof) → Spells proof_layout bytes p → P family anchors p

-- status 0 of an audit: the report of an accepted proof stands, and was written whole
abbrev pub IsStandingRun : (told : Option Files) (words : List (List ℕ)) (taken_before taken_after : Option (List ℕ)) → Type 0
IsStandingRun told words taken_before taken_after =
    (report : Report) × Appends taken_before taken_after (stands_text report)
    × AuditsFiles told words (λ family anchors p. ReportHolds sha256 family anchors p report)

-- status 10 of an audit: two texts clash, and were written whole with their digest
abbrev pub IsClashRun : (told : Option Files) (words : List (List ℕ)) (taken_before taken_after : Option (List ℕ)) → Type 0
IsClashRun told words taken_before taken_after =
    (one : List ℕ) × (other : List ℕ) × (digest : List ℕ) × Appends taken_before taken_after (clash_text one other digest)
    × AuditsFiles told words (λ family anchors p. TextsClash sha256 family anchors p one other digest)

-- ---- which answer comes, where the inputs tell the bytes of all files

-- the words ask for an audit, of a file of these bytes, which may be no proof, under the anchors of a file that has these and no bad
-- line, and against the files of these histories, which are sound, of different services and together within the limit
pub record IsAuditOf (told : Option Files) (words : List (List ℕ)) (bytes : List ℕ) (anchors : List Thread) (family : List History) : Type 0 where
  pub proof_file : List ℕ
  pub anchors_file : List ℕ
  pub history_files : List (List ℕ)
  pub is_command : command_of words ≡ Some (Audit proof_file anchors_file history_files)
  pub proof_told : TellsBytes told proof_file bytes
  pub anchor_bytes : List ℕ
  pub anchors_told : TellsBytes told anchors_file anchor_bytes
  pub are_anchors : AreAnchorsOf anchor_bytes anchors
  pub history_bytes : List (List ℕ)
  pub histories_told : TellAll told history_files history_bytes
  pub are_histories : AreHistories MOST_HISTORY_BYTES [] history_bytes family

module _ {D : Type 0} (around : Around D) (status : ℕ) where
  -- it ended with this status, and the text was written whole
  abbrev pub EndsIn : (wanted : ℕ) (text : List ℕ) → Type 0
  EndsIn wanted text = (status ≡ wanted) × Writes around text

  -- how an audit of these ends, whichever of four things is so
  pub record FindsOf (bytes : List ℕ) (anchors : List Thread) (family : List History) : Type 0 where
    -- the bytes aren't accepted: the lowest reason that stands is told
    pub rejected : (Accepts sha256 anchors bytes → ⊥) → (reason : Reason) × IsLowest sha256 anchors false bytes reason × EndsIn 1 (rejected_text reason)
    -- they are, and the histories haven't all threads held: the first that they lack is told, with what they have there
    pub unheld : (p : Proof) → Spells proof_layout bytes p → IsAccepted sha256 anchors p → (HasThreads sha256 family (held anchors p) → ⊥)
        → (t : Thread) × (found : Option (List ℕ)) × ThreadMissing sha256 family anchors p t found × EndsIn 1 (unheld_text t found)
    -- they have, and two of the texts of the histories and the proof clash: their pair is told, with its digest
    pub clash : (p : Proof) → Spells proof_layout bytes p → IsAccepted sha256 anchors p → HasThreads sha256 family (held anchors p)
        → Clash sha256 (audited_texts sha256 family p)
        → (one : List ℕ) × (other : List ℕ) × (digest : List ℕ) × IsClashPair sha256 (audited_texts sha256 family p) one other digest
        × EndsIn 10 (clash_text one other digest)
    -- they have, and none clash: the report stands
    pub stands : (p : Proof) → Spells proof_layout bytes p → IsAccepted sha256 anchors p → HasThreads sha256 family (held anchors p)
        → (Clash sha256 (audited_texts sha256 family p) → ⊥) → EndsIn 0 (stands_text (report_of p))

  -- it ends so, unless it was hindered
  abbrev pub IsFoundRun : (bytes : List ℕ) (anchors : List Thread) (family : List History) → Type 0
  IsFoundRun bytes anchors family = IsHindered around status ⊎ FindsOf bytes anchors family
