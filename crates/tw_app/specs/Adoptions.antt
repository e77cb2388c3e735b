-- What a run of `adopt` says by status 0, and which answer comes where the inputs tell the bytes of all its files.
use Rattle.std.specs.Prelude.{◌≡◌, ◌⊎◌, ℕ, List, ◌∷◌, Option, Some}
use Rattle.sha2.specs.Sha256.{sha256}
use Rattle.tw_base.specs.declared.history.thread.Thread.{Thread}
use Rattle.tw_base.specs.history.History.{History}
use Rattle.tw_base.specs.history.HistoryCodec.{history_bytes}
use Rattle.tw_base.specs.kinds.Lists.{Each}
use Rattle.tw_outside.specs.Files.{Files, IsThere, TellsBytes}
use Rattle.tw_outside.specs.TakenBytes.{Appends}
use Rattle.tw_words.specs.CommandLine.{command_of}
use Rattle.tw_words.specs.declared.command.Command.{Command}
use Rattle.tw_words.specs.declared.command.Command.TheVariants.{Adopt}
use Rattle.tw_adopt.specs.declared.adopted.AdoptFault.{AdoptFault}
use Rattle.tw_adopt.specs.declared.receiving.Receiving.{Receiving}
use Rattle.tw_adopt.specs.Adopting.{AreGood, IsFirstFault, furthest}
use Rattle.tw_adopt.specs.HistoryFronts.{first_steps}
use Rattle.tw_filecmd.specs.Showing.{IsHistoryFileOf, OfHistory}
use Rattle.tw_filecmd.specs.Verifying.{HasAnchors}
use Rattle.tw_reachcmd.specs.Adopting.{IsTakenOver}
use Rattle.tw_reachcmd.specs.AdoptTexts.{unadopted_text}
use Rattle.tw_reachcmd.specs.Anchors.{AreAnchorsOf}
use Rattle.tw_reachcmd.specs.Held.{TellAll}
use Rattle.tw_app.specs.Around.{Around}
use Rattle.tw_app.specs.Audits.{EndsIn}
use Rattle.tw_app.specs.Running.{IsHindered}

-- the words ask for a history to be taken over
abbrev pub AsksAdoption : Command → Type 0
AsksAdoption (Adopt history anchors proof more) = Unit {0}
AsksAdoption _ = ⊥

-- status 0 of `adopt`: the files are there; where the inputs tell their bytes, the anchors file has these anchors and no bad line, and
-- the history file is that of a sound history, of which so much is taken over by all that the files of the proofs hold, as these bytes
-- are the file of, with what that says of other histories. The bytes were written whole
pub record IsAdoptedRun (told : Option Files) (words : List (List ℕ)) (taken_before taken_after : Option (List ℕ)) : Type 0 where
  pub history : List ℕ
  pub file : List ℕ
  pub proof : List ℕ
  pub more : List (List ℕ)
  pub anchors : List Thread
  pub bytes : List ℕ
  pub is_command : command_of words ≡ Some (Adopt history file proof more)
  pub has_anchors : HasAnchors told file anchors
  pub there : Each (IsThere told) (proof ∷ more)
  pub taken_over : OfHistory told history (IsTakenOver told anchors (proof ∷ more) bytes)
  pub written : Appends taken_before taken_after bytes

-- ---- which answer comes, where the inputs tell the bytes of all files

-- the words ask for this sound history to be taken over from its file, under the anchors of a file that has these and no bad line, by
-- proofs of files that have these bytes, which may be no proofs
pub record IsAdoptionOf (told : Option Files) (words : List (List ℕ)) (h : History) (anchors : List Thread) (proofs : List (List ℕ)) : Type 0 where
  pub history_file : List ℕ
  pub anchors_file : List ℕ
  pub proof_file : List ℕ
  pub more_files : List (List ℕ)
  pub is_command : command_of words ≡ Some (Adopt history_file anchors_file proof_file more_files)
  pub file_bytes : List ℕ
  pub history_told : TellsBytes told history_file file_bytes
  pub is_file : IsHistoryFileOf file_bytes h
  pub anchor_bytes : List ℕ
  pub anchors_told : TellsBytes told anchors_file anchor_bytes
  pub are_anchors : AreAnchorsOf anchor_bytes anchors
  pub proofs_told : TellAll told (proof_file ∷ more_files) proofs

module _ {D : Type 0} (around : Around D) (status : ℕ) (h : History) (anchors : List Thread) (proofs : List (List ℕ)) where
  -- each of the proofs is good, and the file of the history's steps up to the furthest that they show was written whole
  abbrev pub TakesOver : Type 0
  TakesOver =
      (first : Receiving) × (rest : List Receiving) × AreGood sha256 anchors h proofs (first ∷ rest)
      × EndsIn around status 0 (history_bytes (first_steps h (furthest first rest).entry.thread.step))

  -- one of them has this fault, and each before it is good; it was told
  abbrev pub TellsAdoptFault : Type 0
  TellsAdoptFault = (fault : AdoptFault) × IsFirstFault sha256 anchors h 1 proofs fault × EndsIn around status 1 (unadopted_text fault)

  -- it ends in one of both ways, unless it was hindered
  abbrev pub IsAdoptingRun : Type 0
  IsAdoptingRun = IsHindered around status ⊎ (TakesOver ⊎ TellsAdoptFault)
