-- `atlas`: which receipts the files hold, and what the command comes to.
use Rattle.std.specs.Prelude.{◌≡◌, ◌≢◌, ◌⊎◌, ℕ, List, [], ◌∷◌, Option, Result, Ok, Err}
use Rattle.tw_base.specs.declared.history.report.Hop.{Hop}
use Rattle.tw_base.specs.declared.history.thread.Key.{Key}
use Rattle.tw_base.specs.declared.kinds.failure.ReadFault.TheVariants.{Malformed}
use Rattle.tw_base.specs.kinds.Faults.{Rose}
use Rattle.tw_base.specs.kinds.Lists.{Each, In}
use Rattle.tw_outside.specs.Asked.{Asked}
use Rattle.tw_outside.specs.Files.{Files, IsThere}
use Rattle.tw_text.specs.declared.fault.CommandFault.{CommandFault}
use Rattle.tw_text.specs.declared.fault.CommandFault.TheVariants.{Unreadable, InputFault, NoMemory}
use Rattle.tw_text.specs.declared.refusal.BadInput.TheVariants.{BadByte}
use Rattle.tw_atlas.specs.Earliest.{IsAtlasPlanned}
use Rattle.tw_atlas.specs.ReceiptFiles.{AddsHops}
use Rattle.tw_reachcmd.specs.declared.atlas.Planned.{Planned}
use Rattle.tw_reachcmd.specs.Held.{TellAll}

-- ---- files of receipts, one after another

-- these hops are those before and then, file by file, that of each receipt
abbrev pub AreHops : (before : List Hop) → (all : List (List ℕ)) → (hops : List Hop) → Type 0
AreHops before [] hops = hops ≡ before
AreHops before (bytes ∷ all) hops = (next : List Hop) × AddsHops bytes before next (Ok tt) × AreHops next all hops

-- the first file that holds no receipts, or more than there is room for behind those of the files before it, is of this name, and this is its first
-- bad byte
abbrev pub HasBadReceipts : (before : List Hop) → (files all : List (List ℕ)) → (named : List ℕ) (place : ℕ) → Type 0
HasBadReceipts before (file ∷ files) (bytes ∷ all) named place =
    ((named ≡ file) × AddsHops bytes before before (Err (Malformed place)))
    ⊎ ((next : List Hop) × AddsHops bytes before next (Ok tt) × HasBadReceipts next files all named place)
HasBadReceipts before _ _ named place = ⊥

module _ (told : Option Files) (files : List (List ℕ)) where
  -- all are there; where the inputs tell their bytes, these are the hops of their receipts
  pub record HoldHops (hops : List Hop) : Type 0 where
    pub there : Each (IsThere told) files
    pub are : (all : List (List ℕ)) → TellAll told files all → AreHops [] all hops

  -- all are there, and the name is one of theirs; where the inputs tell their bytes, it is the first that isn't as it has to be, and this its first bad byte
  pub record HoldNoHops (named : List ℕ) (place : ℕ) : Type 0 where
    pub there : Each (IsThere told) files
    pub of_files : In named files
    pub is_bad : (all : List (List ℕ)) → TellAll told files all → HasBadReceipts [] files all named place

-- ---- the command

-- what it comes to: the atlas of the hops from the start; or the first file that isn't as it has to be, once all are read. Want of memory
-- is free
abbrev pub AtlasComes : Asked → (start : Key) → (files : List (List ℕ)) → Result Planned CommandFault → Type 0
AtlasComes a start files (Ok planned) =
    (planned.start ≡ start) × ((hops : List Hop) × HoldHops a.told files hops × IsAtlasPlanned hops start planned.atlas)
AtlasComes a start files (Err (Unreadable (BadByte named place))) = HoldNoHops a.told files named place
AtlasComes a start files (Err InputFault) = (files ≢ []) × Rose a.before a.after
AtlasComes a start files (Err NoMemory) = Unit {0}
AtlasComes a start files _ = ⊥
