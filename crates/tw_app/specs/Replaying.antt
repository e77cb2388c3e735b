-- `replay`: what is written of a script that is played, when it isn't, and what the command comes to.
use Rattle.std.specs.Prelude.{◌≡◌, ◌⊎◌, ℕ, List, Result, Ok, Err}
use Rattle.tw_base.specs.kinds.Faults.{Rose}
use Rattle.tw_outside.specs.Asked.{Asked}
use Rattle.tw_outside.specs.Files.{IsThere, TellsBytes}
use Rattle.tw_script.specs.Scripts.{script_of}
use Rattle.tw_script.specs.declared.script.ScriptFault.{ScriptFault}
use Rattle.tw_script.specs.declared.script.ScriptFault.TheVariants as script
use Rattle.tw_text.specs.declared.refusal.BadInput.TheVariants.{BadLine}
use Rattle.tw_text.specs.declared.fault.CommandFault.{CommandFault}
use Rattle.tw_text.specs.declared.fault.CommandFault.TheVariants.{Unreadable, InputFault, NoMemory}
use Rattle.tw_world.specs.Playing.{Replays}
use Rattle.tw_world.specs.declared.replaying.Played.{Played}

-- the text is that of what the bytes are played to, as their script
abbrev pub IsPlayedText : (bytes text : List ℕ) → Type 0
IsPlayedText bytes text = (played : Played) × Replays bytes (Ok played) × (text ≡ played.text)

-- the bytes are no script: this line is the first that isn't allowed, or, where there are too many, the one of the first byte past the limit
abbrev pub IsBadScriptLine : (bytes : List ℕ) (line : ℕ) → Type 0
IsBadScriptLine bytes line = (script_of bytes ≡ Err (script.BadLine line)) ⊎ (script_of bytes ≡ Err (script.TooLong line))

-- the fault of a file that isn't played
abbrev pub fault_of_script : (file : List ℕ) → ScriptFault → CommandFault
fault_of_script file (script.BadLine line) = Unreadable (BadLine file line)
fault_of_script file (script.TooLong line) = Unreadable (BadLine file line)
fault_of_script file script.NoMemory = NoMemory

-- what it comes to; want of memory is free
abbrev pub ReplayComes : Asked → (file : List ℕ) → Result (List ℕ) CommandFault → Type 0
ReplayComes a file (Ok text) = IsThere a.told file × ((bytes : List ℕ) → TellsBytes a.told file bytes → IsPlayedText bytes text)
ReplayComes a file (Err (Unreadable (BadLine named line))) =
    (named ≡ file) × IsThere a.told file × ((bytes : List ℕ) → TellsBytes a.told file bytes → IsBadScriptLine bytes line)
ReplayComes a file (Err InputFault) = Rose a.before a.after
ReplayComes a file (Err NoMemory) = Unit {0}
ReplayComes a file _ = ⊥
