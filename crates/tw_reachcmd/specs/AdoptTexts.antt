-- What the program writes of a history that is to be taken over.
use Rattle.std.specs.Prelude.{ℕ, List, [], ◌∷◌, codes}
use Rattle.tw_text.specs.Lines.{line, no_memory_text}
use Rattle.tw_text.specs.declared.field.Field.TheVariants.{Word, Number, Hex}
use Rattle.tw_evidence.specs.declared.fork.ForkReason.TheVariants as fork
use Rattle.tw_evidence.specs.Texts.{reason_text}
use Rattle.tw_adopt.specs.declared.adopted.AdoptFault.{AdoptFault}
use Rattle.tw_adopt.specs.declared.adopted.AdoptFault.TheVariants.{Part, Stranger, Differs, NoMemory}
use Rattle.tw_reachcmd.specs.AuditTexts.{found_field}
use Rattle.tw_reachcmd.specs.declared.adopting.Taken.{Taken}
use Rattle.tw_reachcmd.specs.declared.adopting.Taken.TheVariants.{File, Fault}

-- the line of a history that isn't taken over: the number of the fault and its name, the number of the proof, and what the fault tells
-- besides. A proof that isn't accepted is told as one of evidence is; of one from which the history differs the thread's step and
-- authenticator are told, and what the history has there
abbrev pub unadopted_text : AdoptFault → List ℕ
unadopted_text (Part number reason) = reason_text (fork.Part number reason)
unadopted_text (Stranger number) = line (codes "rejected") (Number 13 ∷ Word (codes "Stranger") ∷ Number number ∷ [])
unadopted_text (Differs number step held found) =
    line (codes "rejected") (Number 14 ∷ Word (codes "Differs") ∷ Number number ∷ Number step ∷ Hex held ∷ found_field found ∷ [])
unadopted_text NoMemory = no_memory_text

-- the file of the steps that are taken over is written as its bytes are
abbrev pub taken_status : Taken → ℕ
taken_status (File bytes) = 0
taken_status (Fault fault) = 1

abbrev pub taken_text : Taken → List ℕ
taken_text (File bytes) = bytes
taken_text (Fault fault) = unadopted_text fault
