-- From what was read of map files and anchors to what judging maps comes to.
use Rattle.std.proofs.Common.{ℕ, ◌<◌, List, [], length, sym, subst, arith, inl, inr}
use Rattle.std.proofs.lemmas.List.{append-nil}
use Rattle.std.specs.Prelude.{Result, Ok, Err}
use Rattle.tw_base.specs.format.Formats.{Spells}
use Rattle.tw_outside.specs.Asked.{Asked}
use Rattle.tw_outside.specs.Files.{IsReadTo, IsThere}
use Rattle.tw_text.specs.declared.fault.CommandFault.{CommandFault}
use Rattle.tw_text.specs.declared.fault.CommandFault.TheVariants.{NoMemory, Unreadable}
use Rattle.tw_text.specs.declared.refusal.BadInput.TheVariants.{BadByte, BadLine}
use Rattle.tw_tmap.specs.declared.map_file.HighFile.{HighFile}
use Rattle.tw_tmap.specs.declared.map_file.LowFile.{LowFile}
use Rattle.tw_tmap.specs.declared.map_verdict.MapVerdict.{MapVerdict}
use Rattle.tw_tmap.specs.MapFiles.{high_layout, low_layout}
use Rattle.tw_tmap.proofs.MapSizes.{high-size, low-size}
use Rattle.tw_filecmd.proofs.AnchorFronts.{file_limit}
use Rattle.tw_reachcmd.specs.declared.check_map.MapFiles.{MapFiles}
use Rattle.tw_reachcmd.specs.Held.{FileHolds}
use Rattle.tw_reachcmd.specs.CheckMap.{CheckMapComes, HoldMaps}
use Rattle.tw_text.specs.Faults.{IsReadAs}
use Rattle.tw_reachcmd.specs.ReadMaps.{AreMapsOf, MapsCome}
use Rattle.tw_reachcmd.proofs.EvidenceFiles.{anchors_held, bad_line_of}
use Rattle.tw_reachcmd.proofs.FileFronts.{holds, holds_none}

-- map files have fewer bytes than are read

low-short : (word : List ℕ) (l : LowFile) → Spells low_layout word l → length word < file_limit
low-short word l spelled =
    let size = low-size word ([], l, subst (λ w. Spells low_layout w l) (sym (append-nil word)) spelled) in
    omega (arith, size)

high-short : (word : List ℕ) (h : HighFile) → Spells high_layout word h → length word < file_limit
high-short word h spelled =
    let size = high-size word ([], h, subst (λ w. Spells high_layout w h) (sym (append-nil word)) spelled) in
    omega (arith, size)

module _ (a : Asked) (low one : List ℕ) (low_there : IsThere a.told low) (low_read : IsReadTo a.told low file_limit one)
    (high other : List ℕ) (high_there : IsThere a.told high) (high_read : IsReadTo a.told high file_limit other)
    (anchors : List ℕ) (there : IsThere a.told anchors) where
  hold_low : (l : LowFile) → Spells low_layout one l → FileHolds low_layout a.told low l
  hold_low l spelled = holds low_layout low-short a.told low one low_there low_read l spelled

  -- ---- the first of both that holds none of its kind

  low_refused : (fault : CommandFault) → IsReadAs low_layout low one (Err fault) → CheckMapComes a low high anchors
      (Err fault)
  low_refused (Unreadable (BadByte named place)) is =
      inl (
        is.0,
        holds_none low_layout low-short a.told low one low_there low_read place is.1.0 is.1.1,
        high_there,
        there,
      )
  low_refused NoMemory is = tt
  low_refused _ is = absurd is

  high_refused : (l : LowFile) (fault : CommandFault) → Spells low_layout one l → IsReadAs high_layout high other
      (Err fault)
      → CheckMapComes a low high anchors (Err fault)
  high_refused l (Unreadable (BadByte named place)) spelled is =
      inr (
        (l, hold_low l spelled),
        (is.0, holds_none high_layout high-short a.told high other high_there high_read place is.1.0 is.1.1, there),
      )
  high_refused l NoMemory spelled is = tt
  high_refused l _ spelled is = absurd is

  pub maps_refused : (fault : CommandFault) → AreMapsOf low one high other (Err fault) → CheckMapComes a low high
      anchors (Err fault)
  maps_refused fault (inl is) = low_refused fault is
  maps_refused fault (inr is) = high_refused is.0.0 fault is.0.1 is.1

  -- ---- both hold theirs

  hold_maps : (maps : MapFiles) → Spells low_layout one maps.low → Spells high_layout other maps.high
      → HoldMaps a.told low high maps.low maps.high
  hold_maps maps low_spelled high_spelled = record {
    low_held = hold_low maps.low low_spelled;
    high_held = holds high_layout high-short a.told high other high_there high_read maps.high high_spelled;
  }

  -- what comes of them under the lines of the anchors, the command comes to
  pub maps_judged : (all : List ℕ) (read : IsReadTo a.told anchors file_limit all) (maps : MapFiles)
      (r : Result MapVerdict CommandFault)
      → Spells low_layout one maps.low → Spells high_layout other maps.high → MapsCome maps anchors all r
      → CheckMapComes a low high anchors r
  maps_judged all read maps (Ok verdict) low_spelled high_spelled comes = (
    maps.low,
    maps.high,
    comes.0,
    (hold_maps maps low_spelled high_spelled, anchors_held a.told anchors all there read comes.0 comes.1, comes.2),
  )
  maps_judged all read maps (Err (Unreadable (BadLine named number))) low_spelled high_spelled comes = (
    (maps.low, maps.high, hold_maps maps low_spelled high_spelled),
    (
      comes.0,
      record { there = there; bad = (bad_line_of a.told anchors all there read high number high_there comes.1).bad },
    ),
  )
  maps_judged all read maps (Err NoMemory) low_spelled high_spelled comes = tt
  maps_judged all read maps _ low_spelled high_spelled comes = absurd comes
