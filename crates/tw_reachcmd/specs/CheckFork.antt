-- `checkfork`: under which anchors the evidence of a fork is judged, what the verdict then says, and what the command comes to.
use Rattle.std.specs.Prelude.{◌≡◌, ℕ, List, Option, Result, Ok, Err}
use Rattle.sha2.specs.Sha256.{sha256}
use Rattle.tw_base.specs.declared.history.thread.Thread.{Thread}
use Rattle.tw_base.specs.kinds.Faults.{Rose}
use Rattle.tw_outside.specs.Asked.{Asked}
use Rattle.tw_outside.specs.Files.{Files, IsThere, TellsBytes}
use Rattle.tw_text.specs.declared.fault.CommandFault.{CommandFault}
use Rattle.tw_text.specs.declared.fault.CommandFault.TheVariants.{Unreadable, InputFault, NoMemory}
use Rattle.tw_text.specs.declared.refusal.BadInput.TheVariants.{BadLine}
use Rattle.tw_filecmd.specs.Verifying.{HasAnchors, HasBadLine}
use Rattle.tw_evidence.specs.declared.fork.ForkVerdict.{ForkVerdict}
use Rattle.tw_evidence.specs.Binding.{BindsFork}
use Rattle.tw_evidence.specs.Forks.{IsForkVerdict}

-- the verdict on all that the file holds, under these anchors, with its theorem
pub record IsForkJudged (told : Option Files) (file : List ℕ) (anchors : List Thread) (verdict : ForkVerdict) : Type 0 where
  pub there : IsThere told file
  pub is_verdict : (bytes : List ℕ) → TellsBytes told file bytes → IsForkVerdict sha256 anchors bytes verdict
  pub binds : (bytes : List ℕ) → TellsBytes told file bytes → BindsFork sha256 anchors bytes verdict

-- what it comes to: the verdict under the anchors of their file; a bad line of that is told once both files are read. Want of
-- memory is free
abbrev pub CheckForkComes : Asked → (file anchors : List ℕ) → Result ForkVerdict CommandFault → Type 0
CheckForkComes a file anchors (Ok verdict) =
    (held : List Thread) × HasAnchors a.told anchors held × IsForkJudged a.told file held verdict
CheckForkComes a file anchors (Err (Unreadable (BadLine named number))) = (named ≡ anchors) × HasBadLine a.told file anchors number
CheckForkComes a file anchors (Err InputFault) = Rose a.before a.after
CheckForkComes a file anchors (Err NoMemory) = Unit {0}
CheckForkComes a file anchors _ = ⊥
