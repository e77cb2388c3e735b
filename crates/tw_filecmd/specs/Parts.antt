-- What was read of the files of parts.
use Rattle.std.specs.Prelude.{◌≡◌, ℕ, List, take, Option, Some, None, Result, Ok, Err}
use Rattle.tw_outside.specs.Asked.{Asked}
use Rattle.tw_outside.specs.Files.{Files}
use Rattle.tw_text.specs.declared.fault.CommandFault.{CommandFault}
use Rattle.tw_text.specs.declared.refusal.BadInput.{BadInput}
use Rattle.tw_text.specs.declared.refusal.BadInput.TheVariants.{BadByte}
use Rattle.tw_chain.specs.declared.proof.Proof.{Proof}
use Rattle.tw_filecmd.specs.declared.parts.TheConstants.{MOST_KEPT}
use Rattle.tw_filecmd.specs.Joining.{AreProofsOfFiles, HasBadPartFile, JoinComes}

-- each of the files holds its proof, and these are the first of them, as many as decide what all join to
abbrev pub AreFirstOf : (told : Option Files) (files : List (List ℕ)) (kept : List Proof) → Type 0
AreFirstOf told files kept = (parts : List Proof) × AreProofsOfFiles told files parts × (kept ≡ take MOST_KEPT parts)

-- each file read so far holds its proof, of which the first are kept; or this is told of the first of them that holds none
abbrev pub ArePartsRead : (told : Option Files) (files : List (List ℕ)) (parts : List Proof) → Option BadInput → Type 0
ArePartsRead told files parts None = AreFirstOf told files parts
ArePartsRead told files parts (Some (BadByte named place)) = HasBadPartFile told files named place
ArePartsRead told files parts (Some _) = ⊥

-- the files hold proofs, of which these are the first; or joining comes to this fault
abbrev pub PartsCome : Asked → (files : List (List ℕ)) → Result (List Proof) CommandFault → Type 0
PartsCome a files (Ok parts) = AreFirstOf a.told files parts
PartsCome a files (Err fault) = JoinComes a files (Err fault)
