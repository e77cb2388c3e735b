-- What was read of the files of histories.
use Rattle.std.specs.Prelude.{◌≡◌, ◌≢◌, ℕ, ◌-◌, ◌≤◌, List, [], ◌∷◌, length, Option, Some, None, IfSome, Result, Ok, Err}
use Rattle.tw_base.specs.declared.kinds.limits.TheConstants.{MOST_HISTORY_BYTES}
use Rattle.sha2.specs.Sha256.{sha256}
use Rattle.tw_base.specs.declared.history.thread.Thread.{Thread}
use Rattle.tw_base.specs.history.Family.{AllSound, history_of}
use Rattle.tw_base.specs.history.History.{History}
use Rattle.tw_outside.specs.Files.{Files}
use Rattle.tw_text.specs.declared.fault.CommandFault.{CommandFault}
use Rattle.tw_text.specs.declared.fault.CommandFault.TheVariants as command
use Rattle.tw_text.specs.declared.refusal.BadInput.{BadInput}
use Rattle.tw_text.specs.declared.refusal.BadInput.TheVariants.{BadByte}
use Rattle.tw_audit.specs.Auditing.{IsAudit}
use Rattle.tw_reachcmd.specs.declared.auditing.Audited.{Audited}
use Rattle.tw_reachcmd.specs.declared.histories.Family.{Family}
use Rattle.tw_reachcmd.specs.declared.histories.HistoryRefusal.{HistoryRefusal}
use Rattle.tw_reachcmd.specs.declared.histories.HistoryRefusal.TheVariants.{Bad, NoMemory}
use Rattle.tw_reachcmd.specs.Auditing.{finding_answer}
use Rattle.tw_reachcmd.specs.Held.{TellAll}
use Rattle.tw_reachcmd.specs.Histories.{AreHistories, HasBadHistory, IsBadBeside, IsHistoryBeside, IsOfFiles}

-- what is read of bytes beside the histories before: theirs, or why they hold none. Want of memory is free
abbrev pub IsReadBeside : (left : ℕ) → (before : List History) → (file bytes : List ℕ) → Result History HistoryRefusal → Type 0
IsReadBeside left before file bytes (Ok h) = IsHistoryBeside left before bytes h
IsReadBeside left before file bytes (Err (Bad bad)) = IsBadBeside left before file bytes bad
IsReadBeside left before file bytes (Err NoMemory) = Unit {0}

-- what files left of so many bytes
abbrev pub left_by : (left : ℕ) → (all : List (List ℕ)) → ℕ
left_by left [] = left
left_by left (bytes ∷ all) = left_by (left - length bytes) all

-- the histories of the files so far, or why the first that holds none does not
abbrev pub AreSoFar : (files all : List (List ℕ)) → List History → Option BadInput → Type 0
AreSoFar files all family None = AreHistories MOST_HISTORY_BYTES [] all family
AreSoFar files all family (Some bad) = HasBadHistory MOST_HISTORY_BYTES [] files all bad

-- what is known once these files were read
pub record AreHistoriesRead (told : Option Files) (files : List (List ℕ)) (f : Family) : Type 0 where
  pub sound : AllSound f.histories
  pub few : f.left ≤ MOST_HISTORY_BYTES
  pub of_files : IfSome f.bad (IsOfFiles files)
  pub so_far : (all : List (List ℕ)) → TellAll told files all → (f.left ≡ left_by MOST_HISTORY_BYTES all) × AreSoFar files all f.histories f.bad

-- what is found of what was read of a proof and of histories; or why a file holds none. Want of memory is free
abbrev pub IsReadAudited : (anchors : List Thread) → (front : List ℕ) → Family → Result Audited CommandFault → Type 0
IsReadAudited anchors front f (Ok audited) = (f.bad ≡ None) × IsAudit sha256 f.histories anchors front (finding_answer audited)
IsReadAudited anchors front f (Err (command.Unreadable bad)) = f.bad ≡ Some bad
IsReadAudited anchors front f (Err command.NoMemory) = Unit {0}
IsReadAudited anchors front f _ = ⊥

-- a history of a service that none of those before is of; or that one is. Want of memory is free
abbrev pub IsAloneBeside : (before : List History) → (file : List ℕ) → History → Result History HistoryRefusal → Type 0
IsAloneBeside before file h (Ok same) = (same ≡ h) × (history_of before h.name ≡ None)
IsAloneBeside before file h (Err (Bad bad)) = (bad ≡ BadByte file 4) × (history_of before h.name ≢ None)
IsAloneBeside before file h (Err NoMemory) = Unit {0}
