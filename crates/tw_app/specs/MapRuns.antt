-- What status 0 of `checkmap` says, and what it tells of given map files, those of two services among them.
use Rattle.std.specs.Prelude.{◌≡◌, ◌⊎◌, ℕ, ◌<◌, ◌≤◌, List, length, Option, Some}
use Rattle.sha2.specs.Sha256.{sha256}
use Rattle.tw_base.specs.declared.history.thread.Thread.{Thread}
use Rattle.tw_base.specs.format.Formats.{Spells}
use Rattle.tw_base.specs.history.History.{History}
use Rattle.tw_base.specs.history.Sound.{IsSound}
use Rattle.tw_outside.specs.Files.{Files, TellsBytes}
use Rattle.tw_outside.specs.TakenBytes.{Appends}
use Rattle.tw_words.specs.CommandLine.{command_of}
use Rattle.tw_words.specs.declared.command.Command.{Command}
use Rattle.tw_words.specs.declared.command.Command.TheVariants.{CheckMap}
use Rattle.tw_text.specs.declared.refusal.BadInput.{BadInput}
use Rattle.tw_filecmd.specs.Verifying.{HasAnchors}
use Rattle.tw_tmap.specs.declared.map_file.HighFile.{HighFile}
use Rattle.tw_tmap.specs.declared.map_file.LowFile.{LowFile}
use Rattle.tw_tmap.specs.declared.map_verdict.MapVerdict.{MapVerdict}
use Rattle.tw_tmap.specs.declared.map_verdict.MapVerdict.TheVariants.{Yes}
use Rattle.tw_tmap.specs.Binding.{BindsMap}
use Rattle.tw_tmap.specs.Bounds.{high_bound, low_bound}
use Rattle.tw_tmap.specs.Checking.{AreMapFilesAccepted, high_told, low_told}
use Rattle.tw_tmap.specs.MapFiles.{high_layout, low_layout}
use Rattle.tw_tmap.specs.OwnFiles.{IsAnchoredAt, IsOwnHigh, IsOwnLow}
use Rattle.tw_tmap.specs.Texts.{map_status, map_text}
use Rattle.tw_reachcmd.specs.Anchors.{AreAnchorsOf}
use Rattle.tw_reachcmd.specs.CheckMap.{HasBadFile, HoldMaps}
use Rattle.tw_app.specs.Alike.{TellsEach}
use Rattle.tw_app.specs.Around.{Around, Writes}
use Rattle.tw_app.specs.Commands.{command_files}
use Rattle.tw_app.specs.Running.{IsHindered}

-- the words ask for two map files to be judged
abbrev pub AsksMap : Command → Type 0
AsksMap (CheckMap low high anchors) = Unit {0}
AsksMap _ = ⊥

-- status 0 of words that ask for it: all three files are there, and, where the inputs tell their bytes, they hold a low and a high map
-- file and these anchors, under which both are accepted. The bounds that they show were written whole; and these are, in every family of
-- sound histories that has the anchors held of both tops, the bounds of the histories, or two texts of the histories and of the files clash
pub record IsMapRun (told : Option Files) (words : List (List ℕ)) (taken_before taken_after : Option (List ℕ)) : Type 0 where
  pub low_file : List ℕ
  pub high_file : List ℕ
  pub anchors_file : List ℕ
  pub is_command : command_of words ≡ Some (CheckMap low_file high_file anchors_file)
  pub low : LowFile
  pub high : HighFile
  pub anchors : List Thread
  pub hold : HoldMaps told low_file high_file low high
  pub has_anchors : HasAnchors told anchors_file anchors
  pub accepted : AreMapFilesAccepted sha256 anchors low high
  pub written : Appends taken_before taken_after (map_text (Yes (low_told low) (high_told high) high.top))
  pub binds : BindsMap sha256 anchors low high (Yes (low_told low) (high_told high) high.top)

-- ---- what it tells where the inputs tell the bytes of its files

-- the words ask for these map files, which the bytes of both files spell, to be judged under the anchors of a file that has these and no
-- bad line
pub record JudgesMaps (told : Option Files) (words : List (List ℕ)) (low : LowFile) (high : HighFile) (anchors : List Thread) : Type 0 where
  pub low_file : List ℕ
  pub high_file : List ℕ
  pub anchors_file : List ℕ
  pub is_command : command_of words ≡ Some (CheckMap low_file high_file anchors_file)
  pub low_bytes : List ℕ
  pub high_bytes : List ℕ
  pub anchors_bytes : List ℕ
  pub low_tells : TellsBytes told low_file low_bytes
  pub high_tells : TellsBytes told high_file high_bytes
  pub anchors_tell : TellsBytes told anchors_file anchors_bytes
  pub low_spelled : Spells low_layout low_bytes low
  pub high_spelled : Spells high_layout high_bytes high
  pub are_anchors : AreAnchorsOf anchors_bytes anchors

-- the words ask for map files to be judged; the inputs tell the bytes of all three files, and one isn't what it has to be, for this reason
pub record RefusesMaps (told : Option Files) (words : List (List ℕ)) (bad : BadInput) : Type 0 where
  pub low_file : List ℕ
  pub high_file : List ℕ
  pub anchors_file : List ℕ
  pub is_command : command_of words ≡ Some (CheckMap low_file high_file anchors_file)
  pub tells : TellsEach told (command_files (CheckMap low_file high_file anchors_file))
  pub bad_file : HasBadFile told low_file high_file anchors_file bad

-- the status is the one that is wanted, and the text was written whole, unless the command was kept from its answer
abbrev pub EndsUnhindered : {D : Type 0} → Around D → (status wanted : ℕ) (text : List ℕ) → Type 0
EndsUnhindered around status wanted text = IsHindered around status ⊎ ((status ≡ wanted) × Writes around text)

abbrev pub TellsMapVerdict : {D : Type 0} → Around D → (status : ℕ) → MapVerdict → Type 0
TellsMapVerdict around status verdict = EndsUnhindered around status (map_status verdict) (map_text verdict)

-- ---- the map files of two services

-- two sound histories; a step of the first, and a top of it; and a step of the second, up to which is asked what it received
pub record AreAsked (own other : History) (step top upto : ℕ) : Type 0 where
  pub own_sound : IsSound own
  pub other_sound : IsSound other
  pub from_1 : 0 < step
  pub order : step ≤ top
  pub within : top ≤ length own.steps
  pub some : 0 < upto
  pub upto_within : upto ≤ length other.steps

-- the map files that they have of that step, and the anchors have their authenticators of both tops
pub record AreOwnMaps (own other : History) (step top upto : ℕ) (low : LowFile) (high : HighFile) (anchors : List Thread) : Type 0 where
  pub own_low : IsOwnLow sha256 own step other.name top low
  pub own_high : IsOwnHigh sha256 other upto own.name step high
  pub own_held : IsAnchoredAt sha256 anchors own top
  pub other_held : IsAnchoredAt sha256 anchors other upto

-- the bounds of both histories
abbrev pub bounds_of : (own other : History) (step upto : ℕ) → MapVerdict
bounds_of own other step upto = Yes (low_bound own step other.name) (high_bound other own.name step upto) upto
