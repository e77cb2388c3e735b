-- Two runs by the same words over inputs that tell the same, of the commands over files that reach beyond one proof.
use Rattle.std.specs.Prelude.{◌≡◌, ℕ, List, Option, Some}
use Rattle.tw_base.specs.kinds.Lists.{Each}
use Rattle.tw_outside.specs.Files.{Files, TellsBytes}
use Rattle.tw_words.specs.CommandLine.{command_of}
use Rattle.tw_words.specs.declared.command.Command.{Command}
use Rattle.tw_words.specs.declared.command.Command.TheVariants.{CheckMap, Audit, Adopt, Atlas, Accuse, CheckFork}
use Rattle.tw_app.specs.Around.{Around}
use Rattle.tw_app.specs.Commands.{command_files}

-- the commands over files that reach beyond one proof
abbrev pub ReachesBeyond : Command → Type 0
ReachesBeyond (CheckMap low high anchors) = Unit {0}
ReachesBeyond (Audit proof anchors histories) = Unit {0}
ReachesBeyond (Adopt history anchors proof more) = Unit {0}
ReachesBeyond (Atlas name pos files) = Unit {0}
ReachesBeyond (Accuse first second link) = Unit {0}
ReachesBeyond (CheckFork file anchors) = Unit {0}
ReachesBeyond _ = ⊥

-- the inputs tell the bytes of each of the files
abbrev pub TellsEach : Option Files → (files : List (List ℕ)) → Type 0
TellsEach told files = Each (λ (file : List ℕ). (bytes : List ℕ) × TellsBytes told file bytes) files

-- both runs have the same words, which are of such a command, and the inputs of both tell the same: of each file that the words name
-- its bytes
pub record AreRunsAlike {D : Type 0} (one other : Around D) : Type 0 where
  pub command : Command
  pub is_command : command_of one.words ≡ Some command
  pub same_words : other.words ≡ one.words
  pub reaches : ReachesBeyond command
  pub tells : TellsEach one.outside.inputs.told (command_files command)
  pub same_told : other.outside.inputs.told ≡ one.outside.inputs.told
