-- The file of a command over a store's disk: what it holds, and what comes of it.
use Rattle.std.specs.Prelude.{◌≡◌, ℕ, List, Option, Result, Err}
use Rattle.tw_base.specs.format.Formats.{IsPlace, Spells, SpellsNothing}
use Rattle.tw_base.specs.kinds.Faults.{Rose}
use Rattle.tw_disk.specs.Image.{Image}
use Rattle.tw_msg.specs.declared.message.Message.{Message}
use Rattle.tw_msg.specs.Messages.{message_layout}
use Rattle.tw_outside.specs.Asked.{Asked}
use Rattle.tw_outside.specs.Files.{Files, IsThere, TellsBytes}
use Rattle.tw_text.specs.declared.refusal.BadInput.TheVariants.{BadByte}
use Rattle.tw_text.specs.declared.fault.CommandFault.{CommandFault}
use Rattle.tw_text.specs.declared.fault.CommandFault.TheVariants.{Unreadable, InputFault, NoMemory}
use Rattle.tw_diskcmd.specs.Comes.{DiskComes, FoundDisk}

-- the file is there, and these bytes spell the message; where the inputs tell the file's bytes, they are these
pub record IsMessageIn (told : Option Files) (file : List ℕ) (m : Message) : Type 0 where
  pub there : IsThere told file
  pub bytes : List ℕ
  pub spelled : Spells message_layout bytes m
  pub same : (others : List ℕ) → TellsBytes told file others → others ≡ bytes

-- the bytes spell no message, and this is the place of the first one at which none goes on
abbrev pub IsBadMessageByte : (bytes : List ℕ) (place : ℕ) → Type 0
IsBadMessageByte bytes place = SpellsNothing message_layout bytes × IsPlace message_layout bytes place

-- P holds of what the file holds, as a message or events
abbrev pub OfFile : {T : Type 0} → (Has : T → Type 0) → (P : T → Type 0) → Type 0
OfFile {T} Has P = (x : T) × Has x × P x

module _ (a : Asked) (file : List ℕ) (IsBadByte : (bytes : List ℕ) (place : ℕ) → Type 0) where
  -- why the command stops before the disk is touched: the file isn't what it reads, the inputs failed, or there was no memory, want of
  -- which may come later too
  abbrev pub StopsAt : CommandFault → Type 0
  StopsAt (Unreadable (BadByte named place)) = (named ≡ file) × IsThere a.told file × ((bytes : List ℕ) → TellsBytes a.told file bytes → IsBadByte bytes place)
  StopsAt InputFault = Rose a.before a.after
  StopsAt NoMemory = Unit {0}
  StopsAt _ = ⊥

  -- what it comes to: it stops there, or its results are such of what the file holds
  abbrev pub FileComes : {T X : Type 0} → (Has : T → Type 0) (Is : T → Option Image → Result X CommandFault → Type 0) → FoundDisk → Result X CommandFault → Type 0
  FileComes Has Is t (Err (Unreadable bad)) = StopsAt (Unreadable bad)
  FileComes Has Is t (Err InputFault) = StopsAt InputFault
  FileComes Has Is t (Err NoMemory) = StopsAt NoMemory
  FileComes Has Is t result = OfFile Has (λ x. DiskComes (Is x) t result)
