-- With which status and text the bytes of two map files are judged under the bytes of an anchors file.
use Rattle.std.specs.Prelude.{◌≡◌, ◌⊎◌, ℕ, List, map, Err}
use Rattle.sha2.specs.Sha256.{sha256}
use Rattle.tw_base.specs.format.Formats.{Spells}
use Rattle.tw_msg.specs.AnchorsFile.{AllGood, IsNoAnchors, anchor_on, lines}
use Rattle.tw_text.specs.declared.fault.CommandFault.{CommandFault}
use Rattle.tw_tmap.specs.declared.map_file.HighFile.{HighFile}
use Rattle.tw_tmap.specs.declared.map_file.LowFile.{LowFile}
use Rattle.tw_tmap.specs.declared.map_verdict.MapVerdict.{MapVerdict}
use Rattle.tw_tmap.specs.Binding.{BindsMap}
use Rattle.tw_tmap.specs.Checking.{map_verdict}
use Rattle.tw_tmap.specs.MapFiles.{high_layout, low_layout}
use Rattle.tw_tmap.specs.Texts.{map_status, map_text}
use Rattle.tw_text.specs.Faults.{IsReadAs}
use Rattle.tw_judge.specs.Telling.{TellsJudged, TellsWhy}

-- a low map file, a high one, and an anchors file: their bytes, or the words by which texts name them
pub record ThreeFiles : Type 0 where
  pub low : List ℕ
  pub high : List ℕ
  pub anchors : List ℕ

-- the bytes spell a low and a high map file
pub record AreMaps (bytes : ThreeFiles) (low : LowFile) (high : HighFile) : Type 0 where
  pub low_spelled : Spells low_layout bytes.low low
  pub high_spelled : Spells high_layout bytes.high high

-- they do, each line of the anchors is good, and this is what is told of both files under their anchors, with the bounds theorem
pub record AreMapBytesJudged (bytes : ThreeFiles) (verdict : MapVerdict) : Type 0 where
  pub low : LowFile
  pub high : HighFile
  pub are : AreMaps bytes low high
  pub good : AllGood (lines bytes.anchors)
  pub is_verdict : verdict ≡ map_verdict sha256 (map anchor_on (lines bytes.anchors)) low high
  pub binds : BindsMap sha256 (map anchor_on (lines bytes.anchors)) low high verdict

-- why nothing is told of them: the first of both that spells no map file of its kind, with the first byte at which none goes on; or, where
-- both do, the first bad line of the anchors. Want of memory is free
abbrev pub AreMapsUnjudged : (bytes names : ThreeFiles) → CommandFault → Type 0
AreMapsUnjudged bytes names fault =
    IsReadAs low_layout names.low bytes.low (Err fault)
    ⊎ (((low : LowFile) × Spells low_layout bytes.low low) × IsReadAs high_layout names.high bytes.high (Err fault))
    ⊎ (((low : LowFile) × (high : HighFile) × AreMaps bytes low high) × IsNoAnchors names.anchors bytes.anchors fault)

-- what is told of the map files under the anchors, by the names of the files
abbrev pub AreMapsTold : (bytes names : ThreeFiles) → (status : ℕ) (text : List ℕ) → Type 0
AreMapsTold bytes names status text =
    TellsJudged (AreMapBytesJudged bytes) map_status map_text status text ⊎ TellsWhy (AreMapsUnjudged bytes names) status text
