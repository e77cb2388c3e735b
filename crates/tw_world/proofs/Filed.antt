-- The files of some numbers, and the proofs that they are.
use Rattle.std.proofs.Common.{◌≡◌, ℕ, suc, zero, ◌+◌, ◌<◌, List, [], ◌∷◌, ◌++◌, length, take, get_or, refl, ap, sym}
use Rattle.std.proofs.Common.{◌∙◌, subst, inl, inr, add-one, arith}
use Rattle.std.specs.Prelude.{IsSome, Option, Some, None}
use Rattle.std.proofs.Math.Seq.{take-suc}
use Rattle.tw_base.specs.format.Formats.{Spells}
use Rattle.tw_chain.specs.Proofs.{proof_layout}
use Rattle.tw_chain.specs.declared.proof.Proof.{Proof}
use Rattle.tw_world.specs.Players.{AreFiled, AreProofsOfNumbers}
use Rattle.tw_world.specs.Runs.{AreFiles, AreProofs}
use Rattle.tw_world.specs.Worlds.{World, numbered}

pub proofs-more : (files : List (Option (List ℕ))) (proofs : List Proof) (bytes : List ℕ) (p : Proof)
    → AreProofs files proofs → Spells proof_layout bytes p
    → AreProofs (files ++ Some bytes ∷ []) (proofs ++ p ∷ [])
proofs-more [] [] bytes p are spells = (spells, tt)
proofs-more [] (q ∷ proofs) bytes p are spells = absurd are
proofs-more (None ∷ files) proofs bytes p are spells = absurd are
proofs-more (Some one ∷ files) [] bytes p are spells = absurd are
proofs-more (Some one ∷ files) (q ∷ proofs) bytes p are spells = (are.0, proofs-more files proofs bytes p are.1 spells)

not-some : IsSome {T = Option (List ℕ)} None → ⊥
not-some is = cc

module _ (w : World) where
  pub files-more : (numbers : List ℕ) (files : List (Option (List ℕ))) (n : ℕ) (file : Option (List ℕ))
      → AreFiles w numbers files → numbered w.files n ≡ Some file
      → AreFiles w (numbers ++ n ∷ []) (files ++ file ∷ [])
  files-more [] [] n file are is = (is, tt)
  files-more [] (f ∷ files) n file are is = absurd are
  files-more (k ∷ numbers) [] n file are is = absurd are
  files-more (k ∷ numbers) (f ∷ files) n file are is = (are.0, files-more numbers files n file are.1 is)

  -- the first so many, and the next one
  pub files-next : (numbers : List ℕ) (i d : ℕ) (files : List (Option (List ℕ))) (file : Option (List ℕ))
      → i < length numbers → AreFiles w (take i numbers) files
      → numbered w.files (get_or numbers i d) ≡ Some file → AreFiles w (take (i + 1) numbers) (files ++ file ∷ [])
  files-next numbers i d files file within are is =
      subst (λ ns. AreFiles w ns (files ++ file ∷ []))
      (sym (ap (λ j. take j numbers) (add-one i) ∙ take-suc numbers i d within))
      (files-more (take i numbers) files (get_or numbers i d) file are is)

  some-file : (o : Option (Option (List ℕ))) → IsSome o → (file : Option (List ℕ)) × (o ≡ Some file)
  some-file None is = absurd (not-some is)
  some-file (Some file) is = (file, refl)

  files-there : (numbers : List ℕ) → AreFiled w numbers → (files : List (Option (List ℕ))) × AreFiles w numbers files
  files-there [] all = ([], tt)
  files-there (n ∷ numbers) all =
      let first = some-file (numbered w.files n) all.0 in
      let rest = files-there numbers all.1 in (first.0 ∷ rest.0, (first.1, rest.1))

  -- one of them wasn't made
  pub files-without : (numbers : List ℕ) (i d : ℕ) → i < length numbers → numbered w.files (get_or numbers i d) ≡ Some
      None → AreFiled w numbers → AreProofsOfNumbers w numbers None
  files-without [] i d within is all = absurd (omega (arith, within))
  files-without (n ∷ numbers) zero d within is all = let rest = files-there numbers all.1 in
      (None ∷ rest.0, (is, rest.1), inl refl)
  files-without (n ∷ numbers) (suc i) d within is all =
      let first = some-file (numbered w.files n) all.0 in
      let rest = files-without numbers i d (omega (arith, within)) is all.1 in
      (first.0 ∷ rest.0, (first.1, rest.1), inr rest.2)

  -- each of them is there
  pub filed-at : (numbers : List ℕ) (i d : ℕ) → i < length numbers → AreFiled w numbers
      → IsSome (numbered w.files (get_or numbers i d))
  filed-at [] i d within all = absurd (omega (arith, within))
  filed-at (n ∷ numbers) zero d within all = all.0
  filed-at (n ∷ numbers) (suc i) d within all = filed-at numbers i d (omega (arith, within)) all.1
