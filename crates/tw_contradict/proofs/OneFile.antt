-- Bytes are one file that says one thing; so where two files break a rule, no verdict tells that none is broken.
use Rattle.std.proofs.Common.{◌≡◌, ℕ, ◌≤◌, List, ◌++◌, sym, ap, ◌∙◌, subst, arith, inl, inr}
use Rattle.std.specs.Prelude.{◌⊎◌, true, false, Option, Some, None}
use Rattle.std.proofs.lemmas.Bool.{both_ways}
use Rattle.tw_base.specs.declared.history.report.Reason.{Reason}
use Rattle.tw_base.specs.declared.history.thread.Thread.{Thread}
use Rattle.tw_base.specs.format.Codecs.{behind, by_kind, number_codec, variant}
use Rattle.tw_base.specs.format.Fields.{number_bytes}
use Rattle.tw_base.specs.format.Formats.{Spells}
use Rattle.tw_base.proofs.lemmas.format.CodecLaws.{written-as}
use Rattle.tw_base.proofs.lemmas.format.FormatLaws.{one_value}
use Rattle.tw_chain.specs.declared.proof.Proof.{Proof}
use Rattle.tw_chain.specs.declared.proof.Proof.TheVariants.{Exists, Precedes, Archived, Absent, Linked}
use Rattle.tw_chain.specs.Finding.{found_in}
use Rattle.tw_chain.specs.Proofs.{kind_bytes, kinds_codec, proof_codec, proof_kind, proof_layout}
use Rattle.tw_chain.proofs.ProofCodec.{proof-lawful}
use Rattle.tw_tmap.specs.declared.map_file.HighFile.{HighFile}
use Rattle.tw_tmap.specs.declared.map_file.LowFile.{LowFile}
use Rattle.tw_tmap.specs.MapFiles.{high_codec, high_layout, low_codec, low_layout}
use Rattle.tw_tmap.proofs.MapChecks.{passing-found}
use Rattle.tw_tmap.proofs.MapCodec.{high-lawful, low-lawful}
use Rattle.tw_contradict.specs.declared.archive_proof.ArchiveProof.{ArchiveProof}
use Rattle.tw_contradict.specs.declared.facts.Facts.{Facts}
use Rattle.tw_contradict.specs.declared.facts.Rule.{Rule}
use Rattle.tw_contradict.specs.declared.verdict.ContradictReason.TheVariants.{Part, NoConflict, BadLink}
use Rattle.tw_contradict.specs.declared.verdict.ContradictVerdict.{ContradictVerdict}
use Rattle.tw_contradict.specs.declared.verdict.ContradictVerdict.TheVariants.{Yes, No}
use Rattle.tw_contradict.specs.ArchiveFiles.{IsFileOf, IsNoFile, archive_checks, line_of_archive, of_high, of_low, of_proof}
use Rattle.tw_contradict.specs.Facts.{facts_of}
use Rattle.tw_contradict.specs.Rules.{BreakNone, breaks}
use Rattle.tw_contradict.specs.Verdicts.{IsAgainst, IsContradictVerdict, IsFinding, Says, link_leads}

-- ---- bytes of two kinds

-- the bytes begin with those of the kind
abbrev Begins : List ℕ → ℕ → Type 0
Begins bytes kind = (rest : List ℕ) × (bytes ≡ kind_bytes kind ++ rest)

kinds-same : (one other : ℕ) (xs ys : List ℕ) → kind_bytes one ++ xs ≡ kind_bytes other ++ ys → one ≡ other
kinds-same one other xs ys same = cc

same-kind : (bytes : List ℕ) (one other : ℕ) → Begins bytes one → Begins bytes other → one ≡ other
same-kind bytes one other first second = kinds-same one other first.0 second.0 (sym first.1 ∙ second.1)

proof-begins : (bytes : List ℕ) (p : Proof) → Spells proof_layout bytes p → Begins bytes (proof_kind p)
unfolding proof_codec kinds_codec behind by_kind variant number_codec number_bytes
proof-begins bytes (Exists p) spells = (_, written-as proof_codec proof-lawful bytes (Exists p) spells)
proof-begins bytes (Precedes p) spells = (_, written-as proof_codec proof-lawful bytes (Precedes p) spells)
proof-begins bytes (Archived p) spells = (_, written-as proof_codec proof-lawful bytes (Archived p) spells)
proof-begins bytes (Absent p) spells = (_, written-as proof_codec proof-lawful bytes (Absent p) spells)
proof-begins bytes (Linked p) spells = (_, written-as proof_codec proof-lawful bytes (Linked p) spells)

low-begins : (bytes : List ℕ) (f : LowFile) → Spells low_layout bytes f → Begins bytes 6
unfolding low_codec behind
low-begins bytes f spells = (_, written-as low_codec low-lawful bytes f spells)

high-begins : (bytes : List ℕ) (f : HighFile) → Spells high_layout bytes f → Begins bytes 7
unfolding high_codec behind
high-begins bytes f spells = (_, written-as high_codec high-lawful bytes f spells)

kind-most : (p : Proof) → proof_kind p ≤ 5
kind-most (Exists p) = omega arith
kind-most (Precedes p) = omega arith
kind-most (Archived p) = omega arith
kind-most (Absent p) = omega arith
kind-most (Linked p) = omega arith

proof-or-low : (bytes : List ℕ) (p : Proof) (f : LowFile) → Spells proof_layout bytes p → Spells low_layout bytes f → ⊥
proof-or-low bytes p f one other =
    let same : proof_kind p ≡ 6 = same-kind bytes (proof_kind p) 6 (proof-begins bytes p one) (low-begins bytes f other) in
    let most = kind-most p in
    omega (arith, same, most)

proof-or-high : (bytes : List ℕ) (p : Proof) (f : HighFile) → Spells proof_layout bytes p → Spells high_layout bytes f
    → ⊥
proof-or-high bytes p f one other =
    let same : proof_kind p ≡ 7 = same-kind bytes (proof_kind p) 7 (proof-begins bytes p one)
    (high-begins bytes f other) in
    let most = kind-most p in
    omega (arith, same, most)

low-or-high : (bytes : List ℕ) (f : LowFile) (g : HighFile) → Spells low_layout bytes f → Spells high_layout bytes g
    → ⊥
low-or-high bytes f g one other =
    let same : 6 ≡ 7 = same-kind bytes 6 7 (low-begins bytes f one) (high-begins bytes g other) in
    omega (arith, same)

-- ---- one file

same-some : {X : Type 0} (one other : Option X) (x y : X) → one ≡ Some x → other ≡ Some y → one ≡ other → x ≡ y
same-some one other x y first second same =
    let some : Some x ≡ Some y = sym first ∙ same ∙ second in cc

none-some : {X : Type 0} (one other : Option X) (x : X) → one ≡ Some x → other ≡ None → one ≡ other → ⊥
none-some one other x first second same = let never : Some x ≡ None = sym first ∙ same ∙ second in cc

pub one-file : (bytes : List ℕ) (a b : ArchiveProof) → IsFileOf bytes a → IsFileOf bytes b → a ≡ b
one-file bytes a b (inl (p, one, first)) (inl (q, other, second)) =
    same-some (of_proof p) (of_proof q) a b first second (ap of_proof (one_value proof_layout bytes p q one other))
one-file bytes a b (inl (p, one, first)) (inr (inl (g, other, second))) = absurd (proof-or-low bytes p g one other)
one-file bytes a b (inl (p, one, first)) (inr (inr (g, other, second))) = absurd (proof-or-high bytes p g one other)
one-file bytes a b (inr (inl (f, one, first))) (inl (q, other, second)) = absurd (proof-or-low bytes q f other one)
one-file bytes a b (inr (inl (f, one, first))) (inr (inl (g, other, second))) =
    same-some (of_low f) (of_low g) a b first second (ap of_low (one_value low_layout bytes f g one other))
one-file bytes a b (inr (inl (f, one, first))) (inr (inr (g, other, second))) = absurd (low-or-high bytes f g one other)
one-file bytes a b (inr (inr (f, one, first))) (inl (q, other, second)) = absurd (proof-or-high bytes q f other one)
one-file bytes a b (inr (inr (f, one, first))) (inr (inl (g, other, second))) = absurd (low-or-high bytes g f other one)
one-file bytes a b (inr (inr (f, one, first))) (inr (inr (g, other, second))) =
    sym first ∙ ap of_high (one_value high_layout bytes f g one other) ∙ second

no-file : (bytes : List ℕ) (a : ArchiveProof) → IsFileOf bytes a → IsNoFile bytes → ⊥
no-file bytes a (inl (p, one, first)) (inl (q, other, second)) =
    none-some (of_proof p) (of_proof q) a first second (ap of_proof (one_value proof_layout bytes p q one other))
no-file bytes a (inl (p, one, first)) (inr (inl (g, other, second))) = proof-or-low bytes p g one other
no-file bytes a (inl (p, one, first)) (inr (inr none)) = none.0 p one
no-file bytes a (inr (inl (f, one, first))) (inl (q, other, second)) = proof-or-low bytes q f other one
no-file bytes a (inr (inl (f, one, first))) (inr (inl (g, other, second))) =
    none-some (of_low f) (of_low g) a first second (ap of_low (one_value low_layout bytes f g one other))
no-file bytes a (inr (inl (f, one, first))) (inr (inr none)) = none.1 f one
no-file bytes a (inr (inr (f, one, first))) (inl (q, other, second)) = proof-or-high bytes q f other one
no-file bytes a (inr (inr (f, one, first))) (inr (inl (g, other, second))) = low-or-high bytes g f other one
no-file bytes a (inr (inr (f, one, first))) (inr (inr none)) = none.2 f one

-- ---- what it says

module _ (dig : List ℕ → List ℕ) (anchors : List Thread) (bytes : List ℕ) where
  -- an accepted file says one thing
  pub one-facts : (f g : Facts) → Says dig anchors bytes f → Says dig anchors bytes g → f ≡ g
  one-facts f g said also =
      let same : said.proof ≡ also.proof = one-file bytes said.proof also.proof said.is_file also.is_file in
      let line : f.line ≡ g.line =
      same-some (line_of_archive anchors said.proof) (line_of_archive anchors also.proof) f.line g.line said.line
      also.line (ap (λ (a : ArchiveProof). line_of_archive anchors a) same) in
      said.facts_are ∙ ap (λ (a : ArchiveProof). facts_of dig f.line a) same
      ∙ ap (λ (l : Thread). facts_of dig l also.proof) line ∙ sym also.facts_are

  -- and nothing stands against it
  said-against : (f : Facts) (reason : Reason) → Says dig anchors bytes f → IsAgainst dig anchors bytes reason → ⊥
  said-against f reason said (inl (none, malformed)) = no-file bytes said.proof said.is_file none
  said-against f reason said (inr (a, is_file, found)) =
      let same : said.proof ≡ a = one-file bytes said.proof a said.is_file is_file in
      none-some (found_in dig anchors (archive_checks a)) (found_in dig anchors (archive_checks said.proof)) reason found
      (passing-found dig anchors (archive_checks said.proof) said.accepted)
      (ap (λ (b : ArchiveProof). found_in dig anchors (archive_checks b)) (sym same))

-- ---- what is found

module _ (dig : List ℕ → List ℕ) (anchors others : List Thread) (first second link : List ℕ) (one other : Facts)
    (said : Says dig anchors first one) (also : Says dig others second other) where
  -- where a rule is broken, the verdict is that one is, or that the link is none of the lines
  pub rule-found : (rule : Rule) → one.service ≡ other.service
      → (breaks dig rule one other ≡ true) ⊎ (breaks dig rule other one ≡ true) → (verdict : ContradictVerdict)
      → IsContradictVerdict dig anchors others first second link verdict → IsFinding dig one other link verdict
  rule-found rule service broken (Yes conflict is_joined) is = tt
  rule-found rule service broken (No NoConflict) is =
      let same : is.0 ≡ one = one-facts dig anchors first is.0 one is.2.first_says said in
      let like : is.1 ≡ other = one-facts dig others second is.1 other is.2.second_says also in
      let free : BreakNone dig one other = subst (λ (f : Facts). BreakNone dig f other) same
      (subst (λ (g : Facts). BreakNone dig is.0 g) like is.3) in
      elim broken [
        | inl is ↦ both_ways (breaks dig rule one other) (free service rule).0 is
        | inr is ↦ both_ways (breaks dig rule other one) (free service rule).1 is
      ]
  rule-found rule service broken (No BadLink) is =
      let same : is.0 ≡ one = one-facts dig anchors first is.0 one is.2.first_says said in
      let like : is.1 ≡ other = one-facts dig others second is.1 other is.2.second_says also in (
        is.4.0,
        λ l spells. subst (λ (f : Facts). link_leads dig f.line other.line l ≡ false) same
            (subst (λ (g : Facts). link_leads dig is.0.line g.line l ≡ false) like (is.4.1 l spells)),
      )
  rule-found rule service broken (No (Part number reason)) (inl (is, against)) =
      said-against dig anchors first one reason said against
  rule-found rule service broken (No (Part number reason)) (inr (is, accepted, against)) =
      said-against dig others second other reason also against
