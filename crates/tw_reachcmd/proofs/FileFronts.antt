-- From what was read of a file to what the file holds, of formats whose words have fewer bytes than are read.
use Rattle.std.proofs.Common.{◌≡◌, ℕ, ◌<◌, List, [], length, sym, subst, arith}
use Rattle.std.proofs.lemmas.List.{append-nil}
use Rattle.std.specs.Prelude.{Option}
use Rattle.tw_base.specs.format.Formats.{Format, IsPlace, Spells, SpellsNothing}
use Rattle.tw_outside.specs.Files.{Files, IsReadTo, IsThere}
use Rattle.tw_chain.specs.declared.proof.LinkProof.{LinkProof}
use Rattle.tw_chain.specs.declared.proof.Proof.TheVariants.{Archived, Linked}
use Rattle.tw_chain.specs.declared.proof.ThreadProof.{ThreadProof}
use Rattle.tw_chain.proofs.ProofSizes.{proof-size}
use Rattle.tw_evidence.specs.declared.evidence.Evidence.{Evidence}
use Rattle.tw_evidence.specs.Evidence.{evidence_layout, link_proof_layout, thread_proof_layout}
use Rattle.tw_evidence.proofs.EvidenceCodec.{link-is-proof, thread-is-proof}
use Rattle.tw_evidence.proofs.EvidenceSizes.{evidence-size}
use Rattle.tw_filecmd.proofs.AnchorFronts.{file_limit}
use Rattle.tw_filecmd.proofs.FormatFronts.{none_is_none, word_is_whole}
use Rattle.tw_reachcmd.specs.Held.{FileHolds, HoldsNone}

pub thread-short : (word : List ℕ) (t : ThreadProof) → Spells thread_proof_layout word t → length word < file_limit
thread-short word t spelled = let size = proof-size word (Archived t) (thread-is-proof word t spelled) in
    omega (arith, size)

pub link-short : (word : List ℕ) (l : LinkProof) → Spells link_proof_layout word l → length word < file_limit
link-short word l spelled = let size = proof-size word (Linked l) (link-is-proof word l spelled) in omega (arith, size)

pub evidence-short : (word : List ℕ) (e : Evidence) → Spells evidence_layout word e → length word < file_limit
evidence-short word e spelled =
    let size = evidence-size word ([], e, subst (λ w. Spells evidence_layout w e) (sym (append-nil word)) spelled) in
    omega (arith, size)

module _ {X : Type 0} (layout : Format X) (short : (word : List ℕ) (x : X) → Spells layout word x
    → length word < file_limit)
    (told : Option Files) (file all : List ℕ) (there : IsThere told file)
    (read : IsReadTo told file file_limit all) where
  pub holds : (x : X) → Spells layout all x → FileHolds layout told file x
  holds x spelled = record {
    there = there;
    bytes = all;
    spelled = spelled;
    same = λ others tells. sym (word_is_whole layout file_limit short all others (read others tells) x spelled);
  }

  pub holds_none : (place : ℕ) → SpellsNothing layout all → IsPlace layout all place → HoldsNone layout told file place
  holds_none place nothing is = record {
    there = there;
    nothing = λ bytes tells. none_is_none layout file_limit short all bytes (read bytes tells) place nothing is;
  }
