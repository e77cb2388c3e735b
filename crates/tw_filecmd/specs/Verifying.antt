-- `verify` and `strict`: under which anchors a proof file is judged, what the verdict then says, and what the command comes to.
use Rattle.std.specs.Prelude.{◌≡◌, ℕ, List, [], ◌∷◌, map, Bool, false, Option, Result, Ok, Err}
use Rattle.sha2.specs.Sha256.{sha256}
use Rattle.tw_base.specs.declared.history.thread.Thread.{Thread}
use Rattle.tw_base.specs.kinds.Faults.{Rose}
use Rattle.tw_outside.specs.Asked.{Asked}
use Rattle.tw_outside.specs.Files.{Files, IsThere, TellsBytes}
use Rattle.tw_text.specs.declared.refusal.BadInput.TheVariants.{BadLine}
use Rattle.tw_msg.specs.AnchorsFile.{AllGood, IsFirstBadLine, anchor_on, lines}
use Rattle.tw_chain.specs.declared.verdict.Verdict.{Verdict}
use Rattle.tw_chain.specs.Binding.{BindsHistories}
use Rattle.tw_chain.specs.Reasons.{IsVerdict}
use Rattle.tw_text.specs.declared.fault.CommandFault.{CommandFault}
use Rattle.tw_text.specs.declared.fault.CommandFault.TheVariants.{Unreadable, InputFault, NoMemory}

-- the anchors file is there; where the inputs tell its bytes, each of its lines is good, and these are their anchors
pub record HasAnchors (told : Option Files) (file : List ℕ) (anchors : List Thread) : Type 0 where
  pub there : IsThere told file
  pub good : (bytes : List ℕ) → TellsBytes told file bytes → AllGood (lines bytes)
  pub same : (bytes : List ℕ) → TellsBytes told file bytes → anchors ≡ map anchor_on (lines bytes)

-- the verdict on all that the proof file holds, under these anchors and in this form, with its theorem
pub record IsFileJudged (told : Option Files) (file : List ℕ) (anchors : List Thread) (strict : Bool) (verdict : Verdict) : Type 0 where
  pub there : IsThere told file
  pub is_verdict : (bytes : List ℕ) → TellsBytes told file bytes → IsVerdict sha256 anchors strict bytes verdict
  pub binds : (bytes : List ℕ) → TellsBytes told file bytes → BindsHistories sha256 anchors bytes verdict

-- both files are there, and this is the number of the first bad line of the anchors file
pub record HasBadLine (told : Option Files) (proof file : List ℕ) (number : ℕ) : Type 0 where
  pub proof_there : IsThere told proof
  pub there : IsThere told file
  pub bad : (bytes : List ℕ) → TellsBytes told file bytes → IsFirstBadLine (lines bytes) number

-- what judging a proof under these anchors comes to; want of memory is free
abbrev pub JudgingComes : Asked → (proof : List ℕ) → (anchors : List Thread) → (strict : Bool) → Result Verdict CommandFault → Type 0
JudgingComes a proof anchors strict (Ok verdict) = IsFileJudged a.told proof anchors strict verdict
JudgingComes a proof anchors strict (Err InputFault) = Rose a.before a.after
JudgingComes a proof anchors strict (Err NoMemory) = Unit {0}
JudgingComes a proof anchors strict _ = ⊥

-- the same under one anchor, in the form that allows carried threads
abbrev pub VerifyOneComes : Asked → (proof : List ℕ) → (anchor : Thread) → Result Verdict CommandFault → Type 0
VerifyOneComes a proof anchor result = JudgingComes a proof (anchor ∷ []) false result

-- the same under the anchors of a file; a bad line of it is told once both files are read
abbrev pub VerifyFileComes : Asked → (proof file : List ℕ) → (strict : Bool) → Result Verdict CommandFault → Type 0
VerifyFileComes a proof file strict (Ok verdict) =
    (anchors : List Thread) × HasAnchors a.told file anchors × IsFileJudged a.told proof anchors strict verdict
VerifyFileComes a proof file strict (Err (Unreadable (BadLine named number))) = (named ≡ file) × HasBadLine a.told proof file number
VerifyFileComes a proof file strict (Err InputFault) = Rose a.before a.after
VerifyFileComes a proof file strict (Err NoMemory) = Unit {0}
VerifyFileComes a proof file strict _ = ⊥
