-- What is read for `adopt`, and what comes of it.
use Rattle.std.specs.Prelude.{◌≡◌, ℕ, List, [], ◌∷◌, Option, Result, Ok, Err}
use Rattle.sha2.specs.Sha256.{sha256}
use Rattle.tw_base.specs.declared.history.thread.Thread.{Thread}
use Rattle.tw_base.specs.history.History.{History}
use Rattle.tw_base.specs.history.HistoryCodec.{history_bytes}
use Rattle.tw_outside.specs.Files.{Files, IsReadTo}
use Rattle.tw_text.specs.declared.fault.CommandFault.{CommandFault}
use Rattle.tw_text.specs.declared.fault.CommandFault.TheVariants.{Unreadable, NoMemory}
use Rattle.tw_text.specs.declared.refusal.BadInput.TheVariants.{BadByte, Unsound}
use Rattle.tw_filecmd.specs.Showing.{BreaksRule, IsBadByte, IsHistoryFileOf}
use Rattle.tw_adopt.specs.declared.adopted.Adopted.{Adopted}
use Rattle.tw_adopt.specs.Adopting.{IsAdoption, IsFirstFault}
use Rattle.tw_msg.specs.AnchorsFile.{IsNoAnchors}
use Rattle.tw_reachcmd.specs.Anchors.{AreAnchorsOf}
use Rattle.tw_reachcmd.specs.declared.adopting.Taken.{Taken}
use Rattle.tw_reachcmd.specs.declared.adopting.Taken.TheVariants.{File, Fault}

-- what was read of each file, one after another, each to its end or to this limit
abbrev pub AreReadTo : Option Files → (limit : ℕ) → (files read : List (List ℕ)) → Type 0
AreReadTo told limit [] [] = Unit {0}
AreReadTo told limit (file ∷ files) (bytes ∷ read) = IsReadTo told file limit bytes × AreReadTo told limit files read
AreReadTo told limit _ _ = ⊥

-- the sound history that the bytes of the named file spell; or why they spell none. Want of memory is free
abbrev pub IsHistoryIn : (file bytes : List ℕ) → Result History CommandFault → Type 0
IsHistoryIn file bytes (Ok h) = IsHistoryFileOf bytes h
IsHistoryIn file bytes (Err (Unreadable (BadByte named place))) = (named ≡ file) × IsBadByte bytes place
IsHistoryIn file bytes (Err (Unreadable (Unsound named step rule))) = (named ≡ file) × BreaksRule bytes step rule
IsHistoryIn file bytes (Err NoMemory) = Unit {0}
IsHistoryIn file bytes _ = ⊥

-- what comes of a history and proofs under these anchors. Want of memory is free
abbrev pub TakenIs : (anchors : List Thread) → History → (proofs : List (List ℕ)) → Result Taken CommandFault → Type 0
TakenIs anchors h proofs (Ok (File bytes)) = (a : Adopted) × (bytes ≡ history_bytes a.history) × IsAdoption sha256 anchors h proofs (Ok a)
TakenIs anchors h proofs (Ok (Fault fault)) = IsFirstFault sha256 anchors h 1 proofs fault
TakenIs anchors h proofs (Err NoMemory) = Unit {0}
TakenIs anchors h proofs _ = ⊥

-- the same under the anchors of these lines of the named file; or that one of them is bad
abbrev pub TakenUnder : (file lines : List ℕ) → History → (proofs : List (List ℕ)) → Result Taken CommandFault → Type 0
TakenUnder file lines h proofs (Ok taken) = (held : List Thread) × AreAnchorsOf lines held × TakenIs held h proofs (Ok taken)
TakenUnder file lines h proofs (Err fault) = IsNoAnchors file lines fault
