-- What a run's status says by itself.
use Rattle.std.specs.Prelude.{◌≡◌, ◌≢◌, ℕ, List, [], ◌∷◌, ◌++◌, Bool, true, false, Option, Some, None, Err, MatchOption}
use Rattle.sha2.specs.Sha256.{sha256}
use Rattle.tw_base.specs.declared.history.thread.Thread.{Thread}
use Rattle.tw_base.specs.declared.history.report.Reason.{Reason}
use Rattle.tw_base.specs.kinds.Clash.{OrClash}
use Rattle.tw_base.specs.history.Facts.{Facts, TimesRise}
use Rattle.tw_base.specs.history.Family.{AllSound, HasThreads, family_texts}
use Rattle.tw_base.specs.kinds.Faults.{Rose}
use Rattle.tw_base.specs.format.Formats.{Spells}
use Rattle.tw_base.specs.history.History.{History}
use Rattle.tw_base.specs.kinds.Lists.{In}
use Rattle.tw_disk.specs.Disk.{DiskView}
use Rattle.tw_outside.specs.Files.{Files, IsThere, TellsBytes}
use Rattle.tw_outside.specs.TakenBytes.{Appends}
use Rattle.tw_words.specs.CommandLine.{IsFirstBadWord, command_of}
use Rattle.tw_text.specs.Lines.{usage_text}
use Rattle.tw_text.specs.Reports.{gap_text, rejected_text, report_text}
use Rattle.tw_words.specs.declared.command.Command.{Command}
use Rattle.tw_words.specs.declared.command.Command.TheVariants.{Join, VerifyFile, VerifyOne, Strict}
use Rattle.tw_text.specs.Faults.{fault_text}
use Rattle.tw_text.specs.declared.fault.CommandFault.{CommandFault}
use Rattle.tw_text.specs.declared.fault.CommandFault.TheVariants.{InputFault, DiskFault}
use Rattle.tw_join.specs.declared.joining.JoinFault.TheVariants.{Gap}
use Rattle.tw_chain.specs.declared.proof.Proof.{Proof}
use Rattle.tw_chain.specs.Proofs.{proof_layout}
use Rattle.tw_chain.specs.Accepting.{Accepts, carried, held, proof_texts, report_of}
use Rattle.tw_join.specs.Joining.{Joins}
use Rattle.tw_chain.specs.Reasons.{IsLowest}
use Rattle.tw_filecmd.specs.Joining.{AreProofsOfFiles}
use Rattle.tw_filecmd.specs.Verifying.{HasAnchors}
use Rattle.tw_app.specs.Around.{Around, Writes}
use Rattle.tw_app.specs.Commands.{NamesFile}
use Rattle.tw_app.specs.Running.{Work, work}

-- ---- what the words ask for

-- the words are of a command for which P holds
abbrev pub AreWordsOf : (Command → Type 0) → (words : List (List ℕ)) → Type 0
AreWordsOf P words = MatchOption (command_of words) ⊥ P

-- the commands that judge a proof
abbrev pub IsVerify : Command → Type 0
IsVerify (VerifyFile proof anchors) = Unit {0}
IsVerify (VerifyOne proof anchor) = Unit {0}
IsVerify (Strict proof anchors) = Unit {0}
IsVerify _ = ⊥

-- ---- the statuses

-- the statuses that there are
abbrev pub IsStatus : ℕ → Type 0
IsStatus status = In status (0 ∷ 1 ∷ 2 ∷ 3 ∷ 4 ∷ 5 ∷ 6 ∷ 7 ∷ 8 ∷ 9 ∷ 10 ∷ [])

-- those after which nothing was written to a disk: neither was the command done, nor did the sink or the disk fail
abbrev pub IsIdle : ℕ → Type 0
IsIdle status = (status ≡ 0 → ⊥) × (status ≡ 4 → ⊥) × (status ≡ 5 → ⊥)

-- the file of the proof that the command judges
abbrev pub proof_file : Command → Option (List ℕ)
proof_file (VerifyFile proof anchors) = Some proof
proof_file (VerifyOne proof anchor) = Some proof
proof_file (Strict proof anchors) = Some proof
proof_file _ = None

-- the anchors that the command gives: those of its anchors file, or the one of its words
abbrev pub GivesAnchors : Option Files → Command → List Thread → Type 0
GivesAnchors told (VerifyFile proof file) anchors = HasAnchors told file anchors
GivesAnchors told (VerifyOne proof anchor) anchors = anchors ≡ anchor ∷ []
GivesAnchors told (Strict proof file) anchors = HasAnchors told file anchors
GivesAnchors told _ anchors = ⊥

-- the command is of the form that allows no carried thread
abbrev pub is_strict : Command → Bool
is_strict (Strict proof anchors) = true
is_strict _ = false

-- status 0 of words that ask for a verdict: the proof file is there. Where the inputs tell its bytes, they spell a proof that
-- is accepted under the command's anchors, and its report was written whole; of `strict` the proof carries no thread; and in every
-- family of sound histories that has the held threads the report's claim holds, by the report's own hops, and where it has no hops
-- the times rise, or two different texts of the histories and of the proof, both of bytes, have one SHA-256 digest
pub record IsAcceptedRun (told : Option Files) (words : List (List ℕ)) (taken_before taken_after : Option (List ℕ)) : Type 0 where
  pub command : Command
  pub file : List ℕ
  pub anchors : List Thread
  pub is_command : command_of words ≡ Some command
  pub asked : proof_file command ≡ Some file
  pub given : GivesAnchors told command anchors
  pub there : IsThere told file
  pub accepted : (bytes : List ℕ) → TellsBytes told file bytes →
      (accepts : Accepts sha256 anchors bytes) × Appends taken_before taken_after (report_text (report_of accepts.0))
  pub bare : (bytes : List ℕ) → TellsBytes told file bytes → (p : Proof) → Spells proof_layout bytes p → is_strict command ≡ true → carried p ≡ []
  pub binds : (bytes : List ℕ) → TellsBytes told file bytes → (p : Proof) → Spells proof_layout bytes p
      → (family : List History) → AllSound family → HasThreads sha256 family (held anchors p)
      → OrClash sha256 (family_texts sha256 family ++ proof_texts sha256 p)
      (Facts sha256 family (report_of p).hops (report_of p).claim × TimesRise (report_of p).hops (report_of p).claim)

-- status 1 of words that ask for a verdict: the proof file is there; the bytes told spell no proof that is accepted under the
-- command's anchors, or, of `strict`, one that carries threads; and the line of the lowest reason that stands against them was
-- written whole
pub record IsRejectedRun {D : Type 0} (around : Around D) : Type 0 where
  pub command : Command
  pub file : List ℕ
  pub anchors : List Thread
  pub reason : Reason
  pub is_command : command_of around.words ≡ Some command
  pub asked : proof_file command ≡ Some file
  pub given : GivesAnchors around.outside.inputs.told command anchors
  pub there : IsThere around.outside.inputs.told file
  pub written : Writes around (rejected_text reason)
  pub refused : (bytes : List ℕ) → TellsBytes around.outside.inputs.told file bytes →
      ((accepts : Accepts sha256 anchors bytes) → (is_strict command ≡ true) × (carried accepts.0 ≢ []))
      × IsLowest sha256 anchors (is_strict command) bytes reason

-- status 1 of words that ask for proofs to be joined: each of the files holds one, and the line with the number of the first that
-- doesn't fit, or is missing behind all, was written whole
pub record IsGapRun {D : Type 0} (around : Around D) : Type 0 where
  pub files : List (List ℕ)
  pub parts : List Proof
  pub place : ℕ
  pub is_command : command_of around.words ≡ Some (Join files)
  pub hold : AreProofsOfFiles around.outside.inputs.told files parts
  pub gap : Joins parts (Err (Gap place))
  pub written : Writes around (gap_text place)

module _ {D : Type 0} (view : D → DiskView) where
  -- the words are of a command, and this holds of what it does
  abbrev pub IsWork : Around D → (Work → Type 0) → Type 0
  IsWork around P = AreWordsOf (λ command. P (work view around.outside command)) around.words

  -- the words are of a command that comes to an answer of this status, and its text was written whole
  abbrev pub IsAnsweredRun : Around D → (status : ℕ) → Type 0
  IsAnsweredRun around status = (text : List ℕ) × IsWork around (λ w. w.answers status text) × Writes around text

  -- status 0: the words are of a command that is done, and its text was written whole
  abbrev pub IsDoneRun : Around D → Type 0
  IsDoneRun around = (text : List ℕ) × IsWork around (λ w. w.done text) × Writes around text

  -- the words are of a command that isn't done for this fault, and its text was written whole
  abbrev pub IsUndoneRun : Around D → CommandFault → Type 0
  IsUndoneRun around fault = IsWork around (λ w. w.undone fault) × Writes around (fault_text fault)

  -- the words have no form, and this is the first word at which none goes on
  abbrev pub IsUsage : (words : List (List ℕ)) (number : ℕ) → Type 0
  IsUsage words number = MatchOption (command_of words) (IsFirstBadWord words number) (λ command. ⊥)

  -- status 2: the words have no form, and the line with the word's number was written whole
  abbrev pub IsUsageRun : Around D → Type 0
  IsUsageRun around = (number : ℕ) × IsUsage around.words number × Writes around (usage_text number)

  -- status 3: the words are of a command that names a file, and the inputs failed
  abbrev pub IsInputFaultRun : Around D → Type 0
  IsInputFaultRun around =
      AreWordsOf NamesFile around.words × Rose around.outside.inputs.before around.outside.inputs.after
      × IsUndoneRun around InputFault

  -- the disk failed
  abbrev pub DiskFailed : Around D → Type 0
  DiskFailed around = Rose (view around.outside.disk.before).faults (view around.outside.disk.after).faults

  -- status 5: the words ask for work on a disk, to which the command came, and the disk failed
  abbrev pub IsDiskFaultRun : Around D → Type 0
  IsDiskFaultRun around = IsWork around (λ w. w.uses_disk) × DiskFailed around × IsUndoneRun around DiskFault
