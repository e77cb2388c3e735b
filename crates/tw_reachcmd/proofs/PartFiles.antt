-- From what was read of the files of parts to what accusing comes to.
use Rattle.std.proofs.Common.{◌≡◌, ℕ, List, refl, subst, sym, inl, inr}
use Rattle.std.specs.Prelude.{Option, Some, None, Result, Ok, Err, IfOk, IfSome}
use Rattle.sha2.specs.Sha256.{sha256}
use Rattle.tw_base.specs.format.Formats.{IsPlace, Spells, SpellsNothing}
use Rattle.tw_base.proofs.lemmas.format.CodecLaws.{spelled-fits}
use Rattle.tw_outside.specs.Asked.{Asked}
use Rattle.tw_outside.specs.Files.{Files, IsReadTo, IsThere}
use Rattle.tw_text.specs.declared.fault.CommandFault.{CommandFault}
use Rattle.tw_text.specs.declared.fault.CommandFault.TheVariants.{NoMemory, Unreadable}
use Rattle.tw_text.specs.declared.refusal.BadInput.TheVariants.{BadByte}
use Rattle.tw_chain.specs.declared.proof.LinkProof.{LinkProof}
use Rattle.tw_chain.specs.declared.proof.ThreadProof.{ThreadProof}
use Rattle.tw_evidence.specs.declared.evidence.Evidence.{Evidence}
use Rattle.tw_evidence.specs.Accusing.{Accuses, AreSpelled, IsComplete}
use Rattle.tw_evidence.specs.Evidence.{evidence_bytes, link_proof_codec, link_proof_layout, thread_proof_codec}
use Rattle.tw_evidence.specs.Evidence.{thread_proof_layout}
use Rattle.tw_evidence.proofs.EvidenceCodec.{link_proof-lawful, thread_proof-lawful}
use Rattle.tw_filecmd.proofs.AnchorFronts.{file_limit}
use Rattle.tw_reachcmd.specs.declared.accusing.Accused.{Accused}
use Rattle.tw_reachcmd.specs.declared.accusing.Accused.TheVariants.{Whole}
use Rattle.tw_reachcmd.specs.Accusing.{AccuseComes, HoldParts, PartsMake}
use Rattle.tw_text.specs.Faults.{IsReadAs}
use Rattle.tw_reachcmd.specs.Parts.{ArePairOf, LinkedCome}
use Rattle.tw_reachcmd.proofs.FileFronts.{holds, holds_none, link-short, thread-short}

-- ---- what was read has a spelling

pub pair_spelled : (one other : List ℕ) (p q : ThreadProof) → Spells thread_proof_layout one p
    → Spells thread_proof_layout other q → AreSpelled p q None
pair_spelled one other p q first second = (
  spelled-fits thread_proof_codec thread_proof-lawful one p first,
  spelled-fits thread_proof_codec thread_proof-lawful other q second,
  tt,
)

pub linked_spelled : (between : List ℕ) (p q : ThreadProof) (l : LinkProof) → AreSpelled p q None
    → Spells link_proof_layout between l → AreSpelled p q (Some l)
linked_spelled between p q l both link =
    (both.0, both.1, spelled-fits link_proof_codec link_proof-lawful between l link)

-- what the parts make, written
pub written_parts : {E : Type 0} (p q : ThreadProof) (link : Option LinkProof) (e : Evidence) (r : Result Accused E)
    → AreSpelled p q link
    → Accuses p q link (Ok e) → IsComplete p q link e → IfOk r (λ accused. accused ≡ Whole (evidence_bytes e))
    → IfOk r (PartsMake p q link)
written_parts p q link e (Ok accused) spelled makes complete is =
    let done = complete spelled in
    subst (λ (a : Accused). PartsMake p q link a) (sym is)
    (e, makes, done.0, λ anchors shows. done.1 sha256 anchors shows)
written_parts p q link e (Err f) spelled makes complete is = tt

-- ---- the files

module _ (a : Asked) (first one : List ℕ) (first_there : IsThere a.told first)
    (first_read : IsReadTo a.told first file_limit one)
    (second other : List ℕ) (second_there : IsThere a.told second) (second_read : IsReadTo a.told second file_limit
    other) where
  -- both proofs, and no link
  pub accuses_pair : (p q : ThreadProof) (accused : Accused) → Spells thread_proof_layout one p
      → Spells thread_proof_layout other q
      → PartsMake p q None accused → AccuseComes a first second None (Ok accused)
  accuses_pair p q accused p_spelled q_spelled makes = (
    p,
    q,
    None,
    (
      record {
        one_held = holds thread_proof_layout thread-short a.told first one first_there first_read p p_spelled;
        other_held = holds thread_proof_layout thread-short a.told second other second_there second_read q q_spelled;
        link_held = tt;
      },
      makes,
    ),
  )

  -- the first of both files that holds no proof
  first_refused : (link : Option (List ℕ)) (fault : CommandFault) → IfSome link (IsThere a.told)
      → IsReadAs thread_proof_layout first one (Err fault)
      → AccuseComes a first second link (Err fault)
  first_refused link (Unreadable (BadByte named place)) link_there is =
      inl (
        is.0,
        holds_none thread_proof_layout thread-short a.told first one first_there first_read place is.1.0 is.1.1,
        second_there,
        link_there,
      )
  first_refused link NoMemory link_there is = tt
  first_refused link _ link_there is = absurd is

  second_refused : (link : Option (List ℕ)) (p : ThreadProof) (fault : CommandFault) → IfSome link (IsThere a.told)
      → Spells thread_proof_layout one p
      → IsReadAs thread_proof_layout second other (Err fault) → AccuseComes a first second link (Err fault)
  second_refused link p (Unreadable (BadByte named place)) link_there spelled is =
      inr (inl (
        (p, holds thread_proof_layout thread-short a.told first one first_there first_read p spelled),
        (
          is.0,
          holds_none thread_proof_layout thread-short a.told second other second_there second_read place is.1.0 is.1.1,
          link_there,
        ),
      ))
  second_refused link p NoMemory link_there spelled is = tt
  second_refused link p _ link_there spelled is = absurd is

  pub refuses_pair : (link : Option (List ℕ)) (fault : CommandFault) → IfSome link (IsThere a.told)
      → ArePairOf first one second other (Err fault)
      → AccuseComes a first second link (Err fault)
  refuses_pair link fault link_there (inl is) = first_refused link fault link_there is
  refuses_pair link fault link_there (inr is) = second_refused link is.0.0 fault link_there is.0.1 is.1

  module _ (file between : List ℕ) (there : IsThere a.told file) (read : IsReadTo a.told file file_limit between) where
    accuses_linked : (p q : ThreadProof) (l : LinkProof) (accused : Accused) → Spells thread_proof_layout one p
        → Spells thread_proof_layout other q
        → Spells link_proof_layout between l → PartsMake p q (Some l) accused → AccuseComes a first second (Some file)
        (Ok accused)
    accuses_linked p q l accused p_spelled q_spelled l_spelled makes = (
      p,
      q,
      Some l,
      (
        record {
          one_held = holds thread_proof_layout thread-short a.told first one first_there first_read p p_spelled;
          other_held = holds thread_proof_layout thread-short a.told second other second_there second_read q q_spelled;
          link_held = holds link_proof_layout link-short a.told file between there read l l_spelled;
        },
        makes,
      ),
    )

    -- both proofs are read, and the link is none
    refuses_link : (p q : ThreadProof) (fault : CommandFault) → Spells thread_proof_layout one p
        → Spells thread_proof_layout other q
        → IsReadAs link_proof_layout file between (Err fault) → AccuseComes a first second (Some file) (Err fault)
    refuses_link p q (Unreadable (BadByte named place)) p_spelled q_spelled is =
        inr (inr (
          (p, holds thread_proof_layout thread-short a.told first one first_there first_read p p_spelled),
          (q, holds thread_proof_layout thread-short a.told second other second_there second_read q q_spelled),
          (
            file,
            refl,
            is.0,
            holds_none link_proof_layout link-short a.told file between there read place is.1.0 is.1.1,
          ),
        ))
    refuses_link p q NoMemory p_spelled q_spelled is = tt
    refuses_link p q _ p_spelled q_spelled is = absurd is

    pub linked_comes : (p q : ThreadProof) (r : Result Accused CommandFault) → Spells thread_proof_layout one p
        → Spells thread_proof_layout other q
        → LinkedCome p q file between r → AccuseComes a first second (Some file) r
    linked_comes p q (Ok accused) p_spelled q_spelled comes = accuses_linked p q comes.0 accused p_spelled q_spelled
        comes.1 comes.2
    linked_comes p q (Err fault) p_spelled q_spelled comes = refuses_link p q fault p_spelled q_spelled comes
