-- What is read of the bytes of a part's file.
use Rattle.std.specs.Prelude.{◌⊎◌, ℕ, List, Some, Result, Ok, Err}
use Rattle.tw_base.specs.format.Formats.{Spells}
use Rattle.tw_text.specs.Faults.{IsReadAs}
use Rattle.tw_text.specs.declared.fault.CommandFault.{CommandFault}
use Rattle.tw_chain.specs.declared.proof.ThreadProof.{ThreadProof}
use Rattle.tw_chain.specs.declared.proof.LinkProof.{LinkProof}
use Rattle.tw_evidence.specs.Evidence.{link_proof_layout, thread_proof_layout}
use Rattle.tw_reachcmd.specs.declared.accusing.Accused.{Accused}
use Rattle.tw_reachcmd.specs.Accusing.{PartsMake}

-- the proofs of two received threads; or the first file that holds none
abbrev pub ArePairOf : (first one second other : List ℕ) → Result (ThreadProof × ThreadProof) CommandFault → Type 0
ArePairOf first one second other (Ok pair) = Spells thread_proof_layout one pair.0 × Spells thread_proof_layout other pair.1
ArePairOf first one second other (Err fault) =
    IsReadAs thread_proof_layout first one (Err fault)
    ⊎ (((p : ThreadProof) × Spells thread_proof_layout one p) × IsReadAs thread_proof_layout second other (Err fault))

-- what both proofs make with the link that the bytes of a file spell; or that they spell none
abbrev pub LinkedCome : (one other : ThreadProof) → (link bytes : List ℕ) → Result Accused CommandFault → Type 0
LinkedCome one other link bytes (Ok accused) = (l : LinkProof) × Spells link_proof_layout bytes l × PartsMake one other (Some l) accused
LinkedCome one other link bytes (Err fault) = IsReadAs link_proof_layout link bytes (Err fault)
