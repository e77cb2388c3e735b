-- `join`: which proofs the files of the parts hold, and what joining them comes to.
use Rattle.std.specs.Prelude.{◌≡◌, ◌≢◌, ◌⊎◌, ℕ, List, [], ◌∷◌, Option, Result, Ok, Err}
use Rattle.tw_base.specs.kinds.Faults.{Rose}
use Rattle.tw_base.specs.format.Formats.{IsPlace, Spells, SpellsNothing}
use Rattle.tw_base.specs.kinds.Lists.{Each}
use Rattle.tw_outside.specs.Asked.{Asked}
use Rattle.tw_outside.specs.Files.{Files, IsThere, TellsBytes}
use Rattle.tw_text.specs.declared.refusal.BadInput.TheVariants.{BadByte}
use Rattle.tw_text.specs.declared.fault.CommandFault.{CommandFault}
use Rattle.tw_text.specs.declared.fault.CommandFault.TheVariants.{Unreadable, InputFault, NoMemory}
use Rattle.tw_join.specs.declared.joining.JoinFault.{JoinFault}
use Rattle.tw_join.specs.declared.joining.JoinFault.TheVariants.{Gap}
use Rattle.tw_chain.specs.declared.proof.Proof.{Proof}
use Rattle.tw_join.specs.Joining.{Joins}
use Rattle.tw_chain.specs.Proofs.{proof_bytes, proof_layout}
use Rattle.tw_filecmd.specs.declared.joining.Joined.{Joined}
use Rattle.tw_filecmd.specs.declared.joining.Joined.TheVariants.{Whole, Unfit}

module _ (told : Option Files) where
  -- the file is there, and these bytes spell the proof; where the inputs tell the file's bytes, they are these
  pub record IsProofOf (file : List ℕ) (p : Proof) : Type 0 where
    pub there : IsThere told file
    pub bytes : List ℕ
    pub spelled : Spells proof_layout bytes p
    pub same : (others : List ℕ) → TellsBytes told file others → others ≡ bytes

  -- the file is there; where the inputs tell its bytes, they spell no proof, and this is the place of the first one at which none goes on
  pub record IsNoProof (file : List ℕ) (place : ℕ) : Type 0 where
    pub there : IsThere told file
    pub nothing : (bytes : List ℕ) → TellsBytes told file bytes → SpellsNothing proof_layout bytes × IsPlace proof_layout bytes place

  -- each of the files holds one of the proofs, in their order
  abbrev pub AreProofsOfFiles : (files : List (List ℕ)) → List Proof → Type 0
  AreProofsOfFiles [] [] = Unit {0}
  AreProofsOfFiles (file ∷ files) (p ∷ ps) = IsProofOf file p × AreProofsOfFiles files ps
  AreProofsOfFiles _ _ = ⊥

  -- all files are there, and the first one that holds no proof is of this name and no proof at this place
  abbrev pub HasBadPartFile : (files : List (List ℕ)) → (named : List ℕ) (place : ℕ) → Type 0
  HasBadPartFile [] named place = ⊥
  HasBadPartFile (file ∷ files) named place =
      ((named ≡ file) × IsNoProof file place × Each (IsThere told) files)
      ⊎ (((p : Proof) × IsProofOf file p) × HasBadPartFile files named place)

-- what joining the proofs of the files comes to: bytes that spell the proof that they join to; the number of the first one that
-- doesn't fit; or the first file that holds none, once all are read. Want of memory is free
abbrev pub JoinComes : Asked → (files : List (List ℕ)) → Result Joined CommandFault → Type 0
JoinComes a files (Ok (Whole bytes)) =
    (parts : List Proof) × AreProofsOfFiles a.told files parts × ((p : Proof) × Joins parts (Ok p) × Spells proof_layout bytes p)
JoinComes a files (Ok (Unfit place)) = (parts : List Proof) × AreProofsOfFiles a.told files parts × Joins parts (Err (Gap place))
JoinComes a files (Err (Unreadable (BadByte named place))) = HasBadPartFile a.told files named place
JoinComes a files (Err InputFault) = (files ≢ []) × Rose a.before a.after
JoinComes a files (Err NoMemory) = Unit {0}
JoinComes a files _ = ⊥

-- what the command tells of what parts join to: the bytes of the proof, or the number of the part that doesn't fit. Want of memory is free
abbrev pub TellsJoined : Result Proof JoinFault → Result Joined CommandFault → Type 0
TellsJoined joined (Ok (Whole bytes)) = (p : Proof) × (joined ≡ Ok p) × (bytes ≡ proof_bytes p)
TellsJoined joined (Ok (Unfit place)) = joined ≡ Err (Gap place)
TellsJoined joined (Err NoMemory) = Unit {0}
TellsJoined joined (Err _) = ⊥
