-- The bytes of files hold one list of parts of evidence at most, or have one first file that holds none; and parts make
-- one evidence at most.
use Rattle.std.proofs.Common.{◌≡◌, ◌∙◌, ℕ, List, refl, ap, sym, subst, inl, inr}
use Rattle.std.specs.Prelude.{Option, Some, None, Result, Ok, Err}
use Rattle.tw_base.proofs.lemmas.format.CodecLaws.{written-as}
use Rattle.tw_outside.specs.Files.{Files, TellsBytes}
use Rattle.tw_words.specs.declared.command.Command.TheVariants.{Accuse}
use Rattle.tw_chain.specs.declared.proof.LinkProof.{LinkProof}
use Rattle.tw_chain.specs.declared.proof.ThreadProof.{ThreadProof}
use Rattle.tw_evidence.specs.declared.evidence.Evidence.{Evidence}
use Rattle.tw_evidence.specs.Accusing.{accused}
use Rattle.tw_evidence.specs.Evidence.{evidence_bytes, evidence_codec, link_proof_layout, thread_proof_layout}
use Rattle.tw_evidence.proofs.EvidenceCodec.{evidence-lawful}
use Rattle.tw_reachcmd.specs.declared.accusing.Accused.{Accused}
use Rattle.tw_reachcmd.specs.declared.accusing.Accused.TheVariants.{Whole, Unfit}
use Rattle.tw_reachcmd.specs.Accusing.{HasBadLinkFile, HoldParts, HoldsLink, PartsMake}
use Rattle.tw_reachcmd.specs.Held.{HoldsNone}
use Rattle.tw_app.specs.Alike.{TellsEach}
use Rattle.tw_app.specs.Commands.{command_files}
use Rattle.tw_app.proofs.ToldFiles.{held_not_none, held_once, none_once}

-- ---- what parts make

module _ (r : Result Evidence ℕ) where
  some_evidence : (e f : Evidence) → r ≡ Ok e → r ≡ Ok f → e ≡ f
  some_evidence e f is also = cc

  not_both : (e : Evidence) (place : ℕ) → r ≡ Ok e → r ≡ Err place → ⊥
  not_both e place is also = cc

  some_place : (p q : ℕ) → r ≡ Err p → r ≡ Err q → p ≡ q
  some_place p q is also = cc

parts_once : (one other : ThreadProof) (between : Option LinkProof) (x y : Accused) → PartsMake one other between x
    → PartsMake one other between y → x ≡ y
parts_once one other between (Whole b) (Whole c) made also =
    let same = some_evidence (accused one other between) made.0 also.0 made.1 also.1 in
    ap (λ (bytes : List ℕ). Whole bytes)
    (written-as evidence_codec evidence-lawful b made.0 made.2 ∙ ap evidence_bytes same
    ∙ sym (written-as evidence_codec evidence-lawful c also.0 also.2))
parts_once one other between (Whole b) (Unfit q) made also =
    absurd (not_both (accused one other between) made.0 q made.1 also)
parts_once one other between (Unfit p) (Whole c) made also =
    absurd (not_both (accused one other between) also.0 p also.1 made)
parts_once one other between (Unfit p) (Unfit q) made also = ap (λ (place : ℕ). Unfit place)
    (some_place (accused one other between) p q made also)

-- ---- the files

-- the inputs tell the bytes of both proofs and of the link, where one is named
pub record TellsParts (told : Option Files) (first second : List ℕ) (link : Option (List ℕ)) : Type 0 where
  pub one : List ℕ
  pub tells_one : TellsBytes told first one
  pub other : List ℕ
  pub tells_other : TellsBytes told second other
  pub between : (file : List ℕ) → link ≡ Some file → (bytes : List ℕ) × TellsBytes told file bytes

some_file : (one other : List ℕ) → Some one ≡ Some other → one ≡ other
some_file one other is = cc

pub tells_parts : (told : Option Files) (first second : List ℕ) (link : Option (List ℕ))
    → TellsEach told (command_files (Accuse first second link))
    → TellsParts told first second link
tells_parts told first second None each =
    record {
      one = each.0.0;
      tells_one = each.0.1;
      other = each.1.0.0;
      tells_other = each.1.0.1;
      between = λ file is. cc;
    }
tells_parts told first second (Some named) each = record {
  one = each.0.0;
  tells_one = each.0.1;
  other = each.1.0.0;
  tells_other = each.1.0.1;
  between = λ file is. subst (λ (f : List ℕ). (bytes : List ℕ) × TellsBytes told f bytes) (some_file named file is)
      each.1.1.0;
}

module _ (told : Option Files) (first second : List ℕ) (link : Option (List ℕ))
    (t : TellsParts told first second link) where
  links_once : (named : Option (List ℕ)) → link ≡ named → (l k : Option LinkProof) → HoldsLink told first second link
      named l
      → HoldsLink told first second link named k → l ≡ k
  links_once None same None None is also = refl
  links_once None same None (Some k) is also = absurd also
  links_once None same (Some l) k is also = absurd is
  links_once (Some file) same None k is also = absurd is
  links_once (Some file) same (Some l) None is also = absurd also
  links_once (Some file) same (Some l) (Some k) is also =
      let tells = t.between file same in
      ap (λ (x : LinkProof). Some x) (held_once link_proof_layout told file tells.0 tells.1 l k is also)

  abbrev Makes : ThreadProof → ThreadProof → Option LinkProof → Accused → Type 0
  Makes one other between x = HoldParts told first second link one other between × PartsMake one other between x

  pub made_once : (one other again next : ThreadProof) (between more : Option LinkProof) (x y : Accused)
      → Makes one other between x → Makes again next more y → x ≡ y
  made_once one other again next between more x y is also =
      let ones : again ≡ one = held_once thread_proof_layout told first t.one t.tells_one again one also.0.one_held
      is.0.one_held in
      let others : next ≡ other = held_once thread_proof_layout told second t.other t.tells_other next other
      also.0.other_held is.0.other_held in
      let links : more ≡ between = links_once link refl more between also.0.link_held is.0.link_held in
      parts_once one other between x y is.1
      (subst (λ (p : ThreadProof). PartsMake p other between y) ones
      (subst (λ (p : ThreadProof). PartsMake again p between y) others
      (subst (λ (l : Option LinkProof). PartsMake again next l y) links also.1)))

  pub parts_not_bad : (one other : ThreadProof) (between : Option LinkProof) (named : List ℕ) (place : ℕ)
      → HoldParts told first second link one other between
      → HasBadLinkFile told first second link named place → ⊥
  parts_not_bad one other between named place held (inl bad) = held_not_none thread_proof_layout told first t.one
      t.tells_one one place held.one_held bad.1
  parts_not_bad one other between named place held (inr (inl bad)) =
      held_not_none thread_proof_layout told second t.other t.tells_other other place held.other_held bad.1.1
  parts_not_bad one other between named place held (inr (inr bad)) =
      by between (subst (λ (l : Option (List ℕ)). HoldsLink told first second link l between) bad.2.1 held.link_held)
    where
      by : (l : Option LinkProof) → HoldsLink told first second link (Some bad.2.0) l → ⊥
      by None is = is
      by (Some l) is = let tells = t.between bad.2.0 bad.2.1 in held_not_none link_proof_layout told bad.2.0 tells.0
          tells.1 l place is bad.2.3

  pub bad_parts_once : (named again : List ℕ) (p q : ℕ) → HasBadLinkFile told first second link named p
      → HasBadLinkFile told first second link again q
      → (named ≡ again) × (p ≡ q)
  bad_parts_once named again p q (inl one) (inl other) =
      (one.0 ∙ sym other.0, none_once thread_proof_layout told first t.one t.tells_one p q one.1 other.1)
  bad_parts_once named again p q (inl one) (inr (inl other)) =
      absurd (held_not_none thread_proof_layout told first t.one t.tells_one other.0.0 p other.0.1 one.1)
  bad_parts_once named again p q (inl one) (inr (inr other)) =
      absurd (held_not_none thread_proof_layout told first t.one t.tells_one other.0.0 p other.0.1 one.1)
  bad_parts_once named again p q (inr (inl one)) (inl other) =
      absurd (held_not_none thread_proof_layout told first t.one t.tells_one one.0.0 q one.0.1 other.1)
  bad_parts_once named again p q (inr (inl one)) (inr (inl other)) =
      (one.1.0 ∙ sym other.1.0, none_once thread_proof_layout told second t.other t.tells_other p q one.1.1 other.1.1)
  bad_parts_once named again p q (inr (inl one)) (inr (inr other)) =
      absurd (held_not_none thread_proof_layout told second t.other t.tells_other other.1.0 p other.1.1 one.1.1)
  bad_parts_once named again p q (inr (inr one)) (inl other) =
      absurd (held_not_none thread_proof_layout told first t.one t.tells_one one.0.0 q one.0.1 other.1)
  bad_parts_once named again p q (inr (inr one)) (inr (inl other)) =
      absurd (held_not_none thread_proof_layout told second t.other t.tells_other one.1.0 q one.1.1 other.1.1)
  bad_parts_once named again p q (inr (inr one)) (inr (inr other)) =
      let files : other.2.0 ≡ one.2.0 = some_file other.2.0 one.2.0 (sym other.2.1 ∙ one.2.1) in
      let tells = t.between one.2.0 one.2.1 in (
        one.2.2 ∙ sym files ∙ sym other.2.2,
        none_once link_proof_layout told one.2.0 tells.0 tells.1 p q one.2.3
            (subst (λ (file : List ℕ). HoldsNone link_proof_layout told file q) files other.2.3),
      )
