-- What is read of the bytes of map files, and what comes of it under the lines of anchors.
use Rattle.std.specs.Prelude.{◌⊎◌, ℕ, List, Result, Ok, Err}
use Rattle.tw_base.specs.declared.history.thread.Thread.{Thread}
use Rattle.tw_base.specs.format.Formats.{Spells}
use Rattle.tw_text.specs.declared.fault.CommandFault.{CommandFault}
use Rattle.tw_tmap.specs.declared.map_file.LowFile.{LowFile}
use Rattle.tw_tmap.specs.declared.map_verdict.MapVerdict.{MapVerdict}
use Rattle.tw_tmap.specs.MapFiles.{high_layout, low_layout}
use Rattle.tw_reachcmd.specs.declared.check_map.MapFiles.{MapFiles}
use Rattle.tw_msg.specs.AnchorsFile.{IsNoAnchors}
use Rattle.tw_reachcmd.specs.Anchors.{AreAnchorsOf}
use Rattle.tw_reachcmd.specs.CheckMap.{AreMapsJudged}
use Rattle.tw_text.specs.Faults.{IsReadAs}

-- a low and a high map file; or the first of both files that holds none of its kind
abbrev pub AreMapsOf : (low low_bytes high high_bytes : List ℕ) → Result MapFiles CommandFault → Type 0
AreMapsOf low low_bytes high high_bytes (Ok maps) = Spells low_layout low_bytes maps.low × Spells high_layout high_bytes maps.high
AreMapsOf low low_bytes high high_bytes (Err fault) =
    IsReadAs low_layout low low_bytes (Err fault)
    ⊎ (((l : LowFile) × Spells low_layout low_bytes l) × IsReadAs high_layout high high_bytes (Err fault))

-- what is told of both under the anchors of these lines; or the first bad one
abbrev pub MapsCome : MapFiles → (anchors all : List ℕ) → Result MapVerdict CommandFault → Type 0
MapsCome maps anchors all (Ok verdict) = (held : List Thread) × AreAnchorsOf all held × AreMapsJudged held maps.low maps.high verdict
MapsCome maps anchors all (Err fault) = IsNoAnchors anchors all fault
