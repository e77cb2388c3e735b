-- What was read of the files of parts, file after file.
use Rattle.std.proofs.Common.{◌≡◌, ℕ, ◌+◌, ◌<◌, ◌≤◌, List, [], ◌∷◌, ◌++◌, length, take, ap, ◌∙◌, refl, sym, subst}
use Rattle.std.proofs.Common.{arith, inl, inr}
use Rattle.std.specs.Prelude.{Option, Some, None, Result, Ok, Err, true, false, is_some}
use Rattle.std.proofs.lemmas.Bool.{cases_lt}
use Rattle.std.proofs.lemmas.List.{length-append, length-take, take-append-le, take_all}
use Rattle.tw_base.specs.format.Formats.{IsPlace, Spells, SpellsNothing}
use Rattle.tw_base.specs.kinds.Lists.{Each}
use Rattle.tw_base.proofs.lemmas.kinds.ListLemmas.{Each-append}
use Rattle.tw_outside.specs.Asked.{Asked}
use Rattle.tw_outside.specs.Files.{Files, IsReadTo, IsThere}
use Rattle.tw_text.specs.declared.fault.CommandFault.{CommandFault}
use Rattle.tw_text.specs.declared.fault.CommandFault.TheVariants.{NoMemory as WantedMemory}
use Rattle.tw_text.specs.declared.refusal.BadInput.{BadInput}
use Rattle.tw_text.specs.declared.refusal.BadInput.TheVariants.{BadByte, BadLine, Unsound}
use Rattle.tw_chain.specs.declared.proof.Proof.{Proof}
use Rattle.tw_chain.specs.declared.proof.Proof.TheVariants.{Precedes}
use Rattle.tw_join.specs.declared.joining.JoinFault.{JoinFault}
use Rattle.tw_join.specs.declared.joining.JoinFault.TheVariants.{Gap}
use Rattle.tw_join.specs.Joining.{Joins}
use Rattle.tw_join.proofs.JoinedFronts.{joins-front}
use Rattle.tw_chain.specs.Proofs.{proof_bytes, proof_layout}
use Rattle.tw_join.proofs.JoinedSpelling.{joined-spelled}
use Rattle.tw_chain.proofs.ProofSizes.{proof-size}
use Rattle.tw_filecmd.specs.Joining.{AreProofsOfFiles, HasBadPartFile, IsNoProof, IsProofOf, JoinComes, TellsJoined}
use Rattle.tw_filecmd.specs.declared.joining.Joined.{Joined}
use Rattle.tw_filecmd.specs.Parts.{AreFirstOf, ArePartsRead}
use Rattle.tw_filecmd.specs.declared.parts.TheConstants.{MOST_KEPT}
use Rattle.tw_filecmd.specs.declared.joining.Joined.TheVariants.{Whole, Unfit}
use Rattle.tw_filecmd.proofs.AnchorFronts.{file_limit}
use Rattle.tw_filecmd.proofs.FormatFronts.{none_is_none, word_is_whole}

module _ (told : Option Files) where
  -- one file more, which holds a proof
  pub proofs-snoc : (files : List (List ℕ)) (parts : List Proof) (file : List ℕ) (p : Proof)
      → AreProofsOfFiles told files parts → IsProofOf told file p → AreProofsOfFiles told (files ++ file ∷ [])
      (parts ++ p ∷ [])
  proofs-snoc [] [] file p are is = (is, tt)
  proofs-snoc [] (q ∷ parts) file p are is = absurd are
  proofs-snoc (first ∷ files) [] file p are is = absurd are
  proofs-snoc (first ∷ files) (q ∷ parts) file p are is = (are.0, proofs-snoc files parts file p are.1 is)

  -- one that is the first to hold none
  pub bad-snoc : (files : List (List ℕ)) (parts : List Proof) (file : List ℕ) (place : ℕ)
      → AreProofsOfFiles told files parts → IsNoProof told file place → HasBadPartFile told (files ++ file ∷ []) file
      place
  bad-snoc [] parts file place are none = inl (refl, none, tt)
  bad-snoc (first ∷ files) [] file place are none = absurd are
  bad-snoc (first ∷ files) (p ∷ parts) file place are none =
      inr ((p, are.0), bad-snoc files parts file place are.1 none)

  -- one behind it
  pub bad-more : (files : List (List ℕ)) (file named : List ℕ) (place : ℕ)
      → HasBadPartFile told files named place → IsThere told file → HasBadPartFile told (files ++ file ∷ []) named place
  bad-more [] file named place bad there = absurd bad
  bad-more (first ∷ files) file named place (inl here) there =
      inl (here.0, here.1, Each-append (IsThere told) files (file ∷ []) here.2 (there, tt))
  bad-more (first ∷ files) file named place (inr later) there =
      inr (later.0, bad-more files file named place later.1 there)

  module _ (file all : List ℕ) (there : IsThere told file) (read : IsReadTo told file file_limit all) where
    short : (word : List ℕ) (p : Proof) → Spells proof_layout word p → length word < file_limit
    short word p spelled = let size = proof-size word p spelled in omega (arith, size)

    -- what was read is a proof, and so all of the file
    pub is_proof : (p : Proof) → Spells proof_layout all p → IsProofOf told file p
    is_proof p spelled = record {
      there = there;
      bytes = all;
      spelled = spelled;
      same = λ others tells. sym (word_is_whole proof_layout file_limit short all others (read others tells) p spelled);
    }

    -- what was read is none, and so the file is none
    pub is_no_proof : (place : ℕ) → SpellsNothing proof_layout all → IsPlace proof_layout all place
        → IsNoProof told file place
    is_no_proof place nothing is = record {
      there = there;
      nothing = λ bytes tells. none_is_none proof_layout file_limit short all bytes (read bytes tells) place nothing is;
    }

  -- one file more, behind one that holds no proof
  pub read-told : (files : List (List ℕ)) (kept : List Proof) (bad : Option BadInput) (file : List ℕ)
      → is_some bad ≡ true → IsThere told file
      → ArePartsRead told files kept bad → ArePartsRead told (files ++ file ∷ []) kept bad
  read-told files kept None file is there are = cc
  read-told files kept (Some (BadByte named place)) file is there are = bad-more files file named place are there
  read-told files kept (Some (BadLine named number)) file is there are = absurd are
  read-told files kept (Some (Unsound named step rule)) file is there are = absurd are

  kept-more : (files : List (List ℕ)) (kept : List Proof) (file : List ℕ) (p : Proof) → length kept < MOST_KEPT
      → IsProofOf told file p
      → AreFirstOf told files kept → AreFirstOf told (files ++ file ∷ []) (kept ++ p ∷ [])
  kept-more files kept file p few holds are =
      let parts = are.0 in
      let short : length parts < MOST_KEPT = omega (arith, ap length are.2, length-take MOST_KEPT parts) in
      let all : take MOST_KEPT parts ≡ parts = take_all MOST_KEPT parts (omega (arith, short)) in
      let size : length (parts ++ p ∷ []) ≡ length parts + 1 = length-append parts (p ∷ []) in
      let more : take MOST_KEPT (parts ++ p ∷ []) ≡ parts ++ p ∷ [] = take_all MOST_KEPT (parts ++ p ∷ [])
      (omega (arith, short, size)) in (
        parts ++ p ∷ [],
        proofs-snoc files parts file p are.1 holds,
        ap (λ front. front ++ p ∷ []) (are.2 ∙ all) ∙ sym more,
      )

  kept-full : (files : List (List ℕ)) (kept : List Proof) (file : List ℕ) (p : Proof) → MOST_KEPT ≤ length kept
      → IsProofOf told file p
      → AreFirstOf told files kept → AreFirstOf told (files ++ file ∷ []) kept
  kept-full files kept file p full holds are =
      let parts = are.0 in
      let long : MOST_KEPT ≤ length parts = omega (arith, ap length are.2, length-take MOST_KEPT parts) in (
        parts ++ p ∷ [],
        proofs-snoc files parts file p are.1 holds,
        are.2 ∙ sym (take-append-le MOST_KEPT parts (p ∷ []) long),
      )

  -- one that holds a proof, behind others that do: it is kept where there is room, and else not
  read-kept : (files : List (List ℕ)) (kept : List Proof) (bad : Option BadInput) (file : List ℕ) (p : Proof)
      → is_some bad ≡ false
      → length kept < MOST_KEPT → IsProofOf told file p → ArePartsRead told files kept bad
      → ArePartsRead told (files ++ file ∷ []) (kept ++ p ∷ []) bad
  read-kept files kept None file p is few holds are = kept-more files kept file p few holds are
  read-kept files kept (Some bad) file p is few holds are = cc

  read-full : (files : List (List ℕ)) (kept : List Proof) (bad : Option BadInput) (file : List ℕ) (p : Proof)
      → is_some bad ≡ false
      → MOST_KEPT ≤ length kept → IsProofOf told file p → ArePartsRead told files kept bad
      → ArePartsRead told (files ++ file ∷ []) kept bad
  read-full files kept None file p is full holds are = kept-full files kept file p full holds are
  read-full files kept (Some bad) file p is full holds are = cc

  pub read-more : (files : List (List ℕ)) (kept more : List Proof) (bad : Option BadInput) (file : List ℕ) (p : Proof)
      → is_some bad ≡ false
      → (length kept < MOST_KEPT → more ≡ kept ++ p ∷ []) → (MOST_KEPT ≤ length kept → more ≡ kept)
      → IsProofOf told file p → ArePartsRead told files kept bad → ArePartsRead told (files ++ file ∷ []) more bad
  read-more files kept more bad file p is room full holds are = elim (cases_lt (length kept) MOST_KEPT) [
    | inl few ↦ subst (λ ps. ArePartsRead told (files ++ file ∷ []) ps bad) (sym (room few))
        (read-kept files kept bad file p is few holds are)
    | inr many ↦ subst (λ ps. ArePartsRead told (files ++ file ∷ []) ps bad) (sym (full many))
        (read-full files kept bad file p is many holds are)
  ]

  -- the first that holds none
  pub read-none : (files : List (List ℕ)) (kept : List Proof) (bad : Option BadInput) (file : List ℕ) (place : ℕ)
      (came : BadInput)
      → is_some bad ≡ false → IsNoProof told file place → came ≡ BadByte file place → ArePartsRead told files kept bad
      → ArePartsRead told (files ++ file ∷ []) kept (Some came)
  read-none files kept None file place came is none told_as are =
      subst (λ (b : BadInput). ArePartsRead told (files ++ file ∷ []) kept (Some b)) (sym told_as)
      (bad-snoc files are.0 file place are.1 none)
  read-none files kept (Some bad) file place came is none told_as are = cc

-- ---- from the files to what joining them comes to

module _ (a : Asked) where
  spelled_parts : (files : List (List ℕ)) (parts : List Proof) → AreProofsOfFiles a.told files parts
      → Each (λ part. (bytes : List ℕ) × Spells proof_layout bytes part) parts
  spelled_parts [] [] are = tt
  spelled_parts [] (p ∷ parts) are = absurd are
  spelled_parts (file ∷ files) [] are = absurd are
  spelled_parts (file ∷ files) (p ∷ parts) are = ((are.0.bytes, are.0.spelled), spelled_parts files parts are.1)

  -- the bytes of the proof that they join to
  pub joins_parts : (files : List (List ℕ)) (kept : List Proof) (p : Proof) (bytes : List ℕ) → AreFirstOf a.told files
      kept
      → Joins kept (Ok p) → bytes ≡ proof_bytes p → JoinComes a files (Ok (Whole bytes))
  joins_parts files kept p bytes are kept_join written =
      let parts = are.0 in
      let joins : Joins parts (Ok p) = joins-front parts (Ok p) (subst (λ ps. Joins ps (Ok p)) are.2 kept_join) in
      let whole : Spells proof_layout (proof_bytes (Precedes joins.0)) (Precedes joins.0) =
      joined-spelled parts joins.0 (spelled_parts files parts are.1) joins.1 in
      let of_p : Spells proof_layout (proof_bytes p) p = subst (λ q. Spells proof_layout (proof_bytes q) q)
      (sym joins.2) whole in
      (parts, are.1, (p, joins, subst (λ b. Spells proof_layout b p) (sym written) of_p))

  -- the first of them that doesn't fit
  pub leaves_gap : (files : List (List ℕ)) (kept : List Proof) (place : ℕ) → AreFirstOf a.told files kept
      → Joins kept (Err (Gap place))
      → JoinComes a files (Ok (Unfit place))
  leaves_gap files kept place are kept_join =
      let parts = are.0 in
      (parts, are.1, joins-front parts (Err (Gap place)) (subst (λ ps. Joins ps (Err (Gap place))) are.2 kept_join))

  -- what the command tells of what they join to
  pub tells_joined : (files : List (List ℕ)) (kept : List Proof) (joined : Result Proof JoinFault)
      (told : Result Joined CommandFault) → AreFirstOf a.told files kept → Joins kept joined
      → TellsJoined joined told → JoinComes a files told
  tells_joined files kept joined (Ok (Whole bytes)) are joins told =
      joins_parts files kept told.0 bytes are (subst (λ j. Joins kept j) told.1 joins) told.2
  tells_joined files kept joined (Ok (Unfit place)) are joins told =
      leaves_gap files kept place are (subst (λ j. Joins kept j) told joins)
  tells_joined files kept joined (Err WantedMemory) are joins told = tt
  tells_joined files kept joined _ are joins told = absurd told
