-- `checkmap`: which map files the files hold, what is told of these under the anchors of a file, and what the command comes to.
use Rattle.std.specs.Prelude.{◌≡◌, ◌⊎◌, ℕ, List, Option, Result, Ok, Err}
use Rattle.sha2.specs.Sha256.{sha256}
use Rattle.tw_base.specs.declared.history.thread.Thread.{Thread}
use Rattle.tw_base.specs.kinds.Faults.{Rose}
use Rattle.tw_outside.specs.Asked.{Asked}
use Rattle.tw_outside.specs.Files.{Files, IsThere, TellsBytes}
use Rattle.tw_msg.specs.AnchorsFile.{IsFirstBadLine, lines}
use Rattle.tw_text.specs.declared.fault.CommandFault.{CommandFault}
use Rattle.tw_text.specs.declared.fault.CommandFault.TheVariants.{Unreadable, InputFault, NoMemory}
use Rattle.tw_text.specs.declared.refusal.BadInput.{BadInput}
use Rattle.tw_text.specs.declared.refusal.BadInput.TheVariants.{BadByte, BadLine, Unsound}
use Rattle.tw_filecmd.specs.Verifying.{HasAnchors}
use Rattle.tw_tmap.specs.declared.map_file.HighFile.{HighFile}
use Rattle.tw_tmap.specs.declared.map_file.LowFile.{LowFile}
use Rattle.tw_tmap.specs.declared.map_verdict.MapVerdict.{MapVerdict}
use Rattle.tw_tmap.specs.Binding.{BindsMap}
use Rattle.tw_tmap.specs.Checking.{map_verdict}
use Rattle.tw_tmap.specs.MapFiles.{high_layout, low_layout}
use Rattle.tw_reachcmd.specs.Held.{FileHolds, HoldsNone}

-- ---- the files

-- the anchors file is there; where the inputs tell its bytes, this is the number of its first bad line
pub record IsBadLineOf (told : Option Files) (file : List ℕ) (number : ℕ) : Type 0 where
  pub there : IsThere told file
  pub bad : (bytes : List ℕ) → TellsBytes told file bytes → IsFirstBadLine (lines bytes) number

module _ (told : Option Files) (low high : List ℕ) where
  -- the files hold a low and a high map file
  pub record HoldMaps (l : LowFile) (h : HighFile) : Type 0 where
    pub low_held : FileHolds low_layout told low l
    pub high_held : FileHolds high_layout told high h

  -- all three files are there, and the first of them that isn't what it has to be is of this name: the low one holds no low file, and
  -- none goes on at this place; or it holds one, and so with the high one; or both hold theirs, and this line of the anchors is bad
  abbrev pub HasBadFile : (anchors : List ℕ) → BadInput → Type 0
  HasBadFile anchors (BadByte named place) =
      ((named ≡ low) × HoldsNone low_layout told low place × IsThere told high × IsThere told anchors)
      ⊎ (((l : LowFile) × FileHolds low_layout told low l)
      × ((named ≡ high) × HoldsNone high_layout told high place × IsThere told anchors))
  HasBadFile anchors (BadLine named number) =
      ((l : LowFile) × (h : HighFile) × HoldMaps l h) × ((named ≡ anchors) × IsBadLineOf told anchors number)
  HasBadFile anchors (Unsound named step rule) = ⊥

-- ---- what they come to

-- what is told of both map files under these anchors, with the bounds theorem
pub record AreMapsJudged (anchors : List Thread) (l : LowFile) (h : HighFile) (verdict : MapVerdict) : Type 0 where
  pub is_verdict : verdict ≡ map_verdict sha256 anchors l h
  pub binds : BindsMap sha256 anchors l h verdict

-- what the command comes to: what is told of the map files that its files hold under the anchors of theirs; or the first file that isn't
-- what it has to be. Want of memory is free
abbrev pub CheckMapComes : Asked → (low high anchors : List ℕ) → Result MapVerdict CommandFault → Type 0
CheckMapComes a low high anchors (Ok verdict) =
    (l : LowFile) × (h : HighFile) × (held : List Thread)
    × (HoldMaps a.told low high l h × HasAnchors a.told anchors held × AreMapsJudged held l h verdict)
CheckMapComes a low high anchors (Err (Unreadable bad)) = HasBadFile a.told low high anchors bad
CheckMapComes a low high anchors (Err InputFault) = Rose a.before a.after
CheckMapComes a low high anchors (Err NoMemory) = Unit {0}
CheckMapComes a low high anchors _ = ⊥
