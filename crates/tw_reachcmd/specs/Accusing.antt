-- `accuse`: which proofs the files of the parts hold, and what making evidence of them comes to.
use Rattle.std.specs.Prelude.{◌≡◌, ◌⊎◌, ℕ, List, Option, Some, None, Result, Ok, Err, IfSome}
use Rattle.sha2.specs.Sha256.{sha256}
use Rattle.tw_base.specs.declared.history.thread.Thread.{Thread}
use Rattle.tw_base.specs.format.Formats.{Spells}
use Rattle.tw_base.specs.kinds.Faults.{Rose}
use Rattle.tw_outside.specs.Asked.{Asked}
use Rattle.tw_outside.specs.Files.{Files, IsThere}
use Rattle.tw_text.specs.declared.fault.CommandFault.{CommandFault}
use Rattle.tw_text.specs.declared.fault.CommandFault.TheVariants.{Unreadable, InputFault, NoMemory}
use Rattle.tw_text.specs.declared.refusal.BadInput.TheVariants.{BadByte}
use Rattle.tw_chain.specs.declared.proof.LinkProof.{LinkProof}
use Rattle.tw_chain.specs.declared.proof.ThreadProof.{ThreadProof}
use Rattle.tw_join.specs.declared.joining.JoinFault.TheVariants.{Gap}
use Rattle.tw_evidence.specs.declared.evidence.Evidence.{Evidence}
use Rattle.tw_evidence.specs.declared.fork.ForkVerdict.TheVariants.{Yes}
use Rattle.tw_evidence.specs.Accusing.{Accuses}
use Rattle.tw_evidence.specs.Evidence.{evidence_layout, link_proof_layout, thread_proof_layout}
use Rattle.tw_evidence.specs.Forks.{IsForkVerdict, ShowsFork, fork_of}
use Rattle.tw_reachcmd.specs.Held.{FileHolds, HoldsNone}
use Rattle.tw_reachcmd.specs.declared.accusing.Accused.{Accused}
use Rattle.tw_reachcmd.specs.declared.accusing.Accused.TheVariants.{Whole, Unfit}

-- ---- the files

module _ (told : Option Files) (first second : List ℕ) (link : Option (List ℕ)) where
  -- where a link is named, its file holds it
  abbrev pub HoldsLink : Option (List ℕ) → Option LinkProof → Type 0
  HoldsLink None None = Unit {0}
  HoldsLink (Some file) (Some l) = FileHolds link_proof_layout told file l
  HoldsLink _ _ = ⊥

  -- the files hold the proofs of two received threads, and the link, where one is named
  pub record HoldParts (one other : ThreadProof) (between : Option LinkProof) : Type 0 where
    pub one_held : FileHolds thread_proof_layout told first one
    pub other_held : FileHolds thread_proof_layout told second other
    pub link_held : HoldsLink link between

  -- all files are there, and the first that holds no part of its kind is of this name, and no such part at this place
  abbrev pub HasBadLinkFile : (named : List ℕ) (place : ℕ) → Type 0
  HasBadLinkFile named place =
      ((named ≡ first) × HoldsNone thread_proof_layout told first place × IsThere told second × IfSome link (IsThere told))
      ⊎ (((one : ThreadProof) × FileHolds thread_proof_layout told first one)
      × ((named ≡ second) × HoldsNone thread_proof_layout told second place × IfSome link (IsThere told)))
      ⊎ (((one : ThreadProof) × FileHolds thread_proof_layout told first one)
      × ((other : ThreadProof) × FileHolds thread_proof_layout told second other)
      × ((file : List ℕ) × (link ≡ Some file) × (named ≡ file) × HoldsNone link_proof_layout told file place))

-- ---- what they come to

-- the bytes spell the evidence that the parts make; and under all anchors under which it shows a fork, they are accepted, with that
-- fork
abbrev pub IsEvidenceOf : (one other : ThreadProof) → Option LinkProof → (bytes : List ℕ) → Type 0
IsEvidenceOf one other between bytes =
    (e : Evidence) × Accuses one other between (Ok e) × Spells evidence_layout bytes e
    × ((anchors : List Thread) → ShowsFork sha256 anchors e → IsForkVerdict sha256 anchors bytes (Yes (fork_of e)))

-- what the parts come to: the bytes of their evidence, or the number of the first that doesn't fit
abbrev pub PartsMake : (one other : ThreadProof) → Option LinkProof → Accused → Type 0
PartsMake one other between (Whole bytes) = IsEvidenceOf one other between bytes
PartsMake one other between (Unfit place) = Accuses one other between (Err (Gap place))

-- what the command comes to: what the parts of its files do; or the first file that holds none, once all are read. Want of memory
-- is free
abbrev pub AccuseComes : Asked → (first second : List ℕ) → (link : Option (List ℕ)) → Result Accused CommandFault → Type 0
AccuseComes a first second link (Ok accused) =
    (one : ThreadProof) × (other : ThreadProof) × (between : Option LinkProof)
    × (HoldParts a.told first second link one other between × PartsMake one other between accused)
AccuseComes a first second link (Err (Unreadable (BadByte named place))) = HasBadLinkFile a.told first second link named place
AccuseComes a first second link (Err InputFault) = Rose a.before a.after
AccuseComes a first second link (Err NoMemory) = Unit {0}
AccuseComes a first second link _ = ⊥
