-- `adopt`: how far a history is taken over by the proofs of files, and what the command comes to.
use Rattle.std.specs.Prelude.{◌≡◌, ◌≢◌, ℕ, ◌<◌, ◌≤◌, List, ◌∷◌, length, Option, Some, Result, Ok, Err}
use Rattle.sha2.specs.Sha256.{sha256}
use Rattle.tw_base.specs.declared.history.thread.Thread.{Thread}
use Rattle.tw_base.specs.history.History.{History}
use Rattle.tw_base.specs.history.HistoryCodec.{history_bytes}
use Rattle.tw_base.specs.kinds.Faults.{Rose}
use Rattle.tw_base.specs.kinds.Lists.{Each}
use Rattle.tw_outside.specs.Asked.{Asked}
use Rattle.tw_outside.specs.Files.{Files, IsThere, TellsBytes}
use Rattle.tw_text.specs.declared.fault.CommandFault.{CommandFault}
use Rattle.tw_text.specs.declared.fault.CommandFault.TheVariants.{Unreadable, InputFault, NoMemory}
use Rattle.tw_text.specs.declared.refusal.BadInput.TheVariants.{BadByte, BadLine, Unsound}
use Rattle.tw_adopt.specs.declared.adopted.AdoptFault.TheVariants.{Part, Stranger, Differs, NoMemory as WantedMemory}
use Rattle.tw_adopt.specs.declared.adopted.Adopted.{Adopted}
use Rattle.tw_adopt.specs.Adopting.{IsAdoption, IsFirstFault}
use Rattle.tw_adopt.specs.Binding.{BindsAdoption}
use Rattle.tw_filecmd.specs.Showing.{BreaksRule, IsBadByte, OfHistory}
use Rattle.tw_filecmd.specs.Verifying.{HasAnchors, HasBadLine}
use Rattle.tw_reachcmd.specs.Held.{TellAll}
use Rattle.tw_reachcmd.specs.declared.adopting.Taken.{Taken}
use Rattle.tw_reachcmd.specs.declared.adopting.Taken.TheVariants.{File, Fault}

module _ (told : Option Files) (anchors : List Thread) (proofs : List (List ℕ)) where
  -- by all that the files of the proofs hold, this much of the history is taken over, and what that says of other histories is so; the
  -- bytes are the file of the steps that are taken over
  pub record IsTakenOver (bytes : List ℕ) (h : History) : Type 0 where
    pub adopted : Adopted
    pub file : bytes ≡ history_bytes adopted.history
    pub answers : (all : List (List ℕ)) → TellAll told proofs all → IsAdoption sha256 anchors h all (Ok adopted)
    pub binds : (all : List (List ℕ)) → TellAll told proofs all → BindsAdoption sha256 h anchors all (Ok adopted)

  -- the history is taken over; or this is the first fault of all that the files of the proofs hold
  abbrev pub IsAdoptionTaken : Taken → History → Type 0
  IsAdoptionTaken (File bytes) h = IsTakenOver bytes h
  IsAdoptionTaken (Fault fault) h = (all : List (List ℕ)) → TellAll told proofs all → IsFirstFault sha256 anchors h 1 all fault

-- what it tells of so many proofs, whatever their files hold: a fault is of one of them, counted from 1; where a history differs, it has another
-- authenticator than the one held, or none; and want of memory is no fault of a proof
abbrev pub IsTakenOf : (count : ℕ) → Taken → Type 0
IsTakenOf count (File bytes) = Unit {0}
IsTakenOf count (Fault (Part n reason)) = (0 < n) × (n ≤ count)
IsTakenOf count (Fault (Stranger n)) = (0 < n) × (n ≤ count)
IsTakenOf count (Fault (Differs n step held found)) = (0 < n) × (n ≤ count) × (found ≢ Some held)
IsTakenOf count (Fault WantedMemory) = ⊥

-- what it comes to: under the anchors of their file, what is taken over of the sound history of its file, or the first fault of the
-- proofs. Once all files are there, what is told of the history's file, where it holds no sound history; or else the first bad line of
-- the anchors file. Want of memory is free
abbrev pub AdoptComes : Asked → (history anchors : List ℕ) → (proofs : List (List ℕ)) → Result Taken CommandFault → Type 0
AdoptComes a history anchors proofs (Ok taken) =
    (held : List Thread) × HasAnchors a.told anchors held × Each (IsThere a.told) proofs × OfHistory a.told history (IsAdoptionTaken a.told held proofs taken)
    × IsTakenOf (length proofs) taken
AdoptComes a history anchors proofs (Err (Unreadable (BadByte named place))) =
    (named ≡ history) × Each (IsThere a.told) (history ∷ anchors ∷ proofs) × ((bytes : List ℕ) → TellsBytes a.told history bytes → IsBadByte bytes place)
AdoptComes a history anchors proofs (Err (Unreadable (Unsound named step rule))) =
    (named ≡ history) × Each (IsThere a.told) (history ∷ anchors ∷ proofs) × ((bytes : List ℕ) → TellsBytes a.told history bytes → BreaksRule bytes step rule)
AdoptComes a history anchors proofs (Err (Unreadable (BadLine named number))) =
    (named ≡ anchors) × HasBadLine a.told history anchors number × Each (IsThere a.told) proofs × OfHistory a.told history (λ h. Unit {0})
AdoptComes a history anchors proofs (Err InputFault) = Rose a.before a.after
AdoptComes a history anchors proofs (Err NoMemory) = Unit {0}
AdoptComes a history anchors proofs _ = ⊥
