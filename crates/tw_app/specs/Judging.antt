-- Runs that judge a proof, map files or evidence, where the inputs tell the bytes of all their files.
use Rattle.std.specs.Prelude.{◌≡◌, ℕ, List, Bool, true, false, Some}
use Rattle.tw_base.specs.kinds.Faults.{Rose}
use Rattle.tw_outside.specs.Files.{TellsBytes}
use Rattle.tw_words.specs.CommandLine.{command_of}
use Rattle.tw_words.specs.declared.command.Command.{Command}
use Rattle.tw_words.specs.declared.command.Command.TheVariants.{VerifyFile, Strict, CheckMap, CheckFork}
use Rattle.tw_judge.specs.Maps.{ThreeFiles}
use Rattle.tw_app.specs.Around.{Around}

-- the command that judges a proof under the anchors of a file, in the form that allows carried threads, or in the strict one
abbrev pub judging : (strict : Bool) (proof_file file : List ℕ) → Command
judging false proof_file file = VerifyFile proof_file file
judging true proof_file file = Strict proof_file file

-- the words are of that command, and these are the bytes of both files
pub record JudgesFiles {D : Type 0} (a : Around D) (strict : Bool) (file proof anchors : List ℕ) : Type 0 where
  pub proof_file : List ℕ
  pub is_command : command_of a.words ≡ Some (judging strict proof_file file)
  pub proof_told : TellsBytes a.outside.inputs.told proof_file proof
  pub anchors_told : TellsBytes a.outside.inputs.told file anchors

-- the words are of `checkmap` with the files of these names, and these are their bytes
pub record JudgesMapFiles {D : Type 0} (a : Around D) (bytes names : ThreeFiles) : Type 0 where
  pub is_command : command_of a.words ≡ Some (CheckMap names.low names.high names.anchors)
  pub low_told : TellsBytes a.outside.inputs.told names.low bytes.low
  pub high_told : TellsBytes a.outside.inputs.told names.high bytes.high
  pub anchors_told : TellsBytes a.outside.inputs.told names.anchors bytes.anchors

-- the words are of `checkfork` with this anchors file, and these are the bytes of both files
pub record JudgesEvidence {D : Type 0} (a : Around D) (file evidence anchors : List ℕ) : Type 0 where
  pub evidence_file : List ℕ
  pub is_command : command_of a.words ≡ Some (CheckFork evidence_file file)
  pub evidence_told : TellsBytes a.outside.inputs.told evidence_file evidence
  pub anchors_told : TellsBytes a.outside.inputs.told file anchors

-- neither the inputs nor the sink failed
pub record NoneFailed {D : Type 0} (a : Around D) : Type 0 where
  pub inputs : Rose a.outside.inputs.before a.outside.inputs.after → ⊥
  pub sink : Rose a.sink_faults.before a.sink_faults.after → ⊥
