-- A verifier that is fed a file, whose bytes are kept.
use Rattle.std.proofs.Common.{◌≡◌, ◌∙◌, ℕ, ◌+◌, ◌≤◌, List, [], ◌++◌, length, take, drop, false, ap, sym, subst, refl}
use Rattle.std.proofs.Common.{arith, inl, inr}
use Rattle.std.specs.Prelude.{Option}
use Rattle.std.proofs.lemmas.Bool.{cases_lt}
use Rattle.std.proofs.lemmas.List.{take_all}
use Rattle.sha2.specs.Sha256.{sha256}
use Rattle.tw_base.specs.declared.history.thread.Thread.{Thread}
use Rattle.tw_base.specs.declared.kinds.hasher.Sha.{Sha}
use Rattle.tw_base.specs.format.Formats.{IsFront}
use Rattle.tw_outside.specs.Files.{Files, TellsBytes}
use Rattle.tw_outside.proofs.Fronts.{front_grows}
use Rattle.tw_pieces.specs.Feeding.{IsSpent}
use Rattle.tw_chain.specs.Proofs.{proof_layout}
use Rattle.tw_verifier.specs.declared.verifier.Verifier.{Verifier}
use Rattle.tw_verifier.specs.Verifying.{IsFed}
use Rattle.tw_filecmd.proofs.ProofFronts.{front-size}
use Rattle.tw_reachcmd.specs.Fronts.{IsFarFront, IsFedOf}

-- the same of inputs that tell the same
pub fed_of_told : (before after : Option Files) (file : List ℕ) (anchors : List Thread) (old new : Verifier Sha)
    (front longer : List ℕ) → before ≡ after
    → (IsFedOf before file anchors old front → IsFedOf before file anchors new longer) → IsFedOf after file anchors old
    front → IsFedOf after file anchors new longer
fed_of_told before after file anchors old new front longer same feeds =
    subst (λ told. IsFedOf told file anchors old front → IsFedOf told file anchors new longer) same feeds

module _ (told : Option Files) (file : List ℕ) (anchors : List Thread) where
  pub fed_of_nothing : (v : Verifier Sha) → IsFed sha256 anchors false v [] × (IsSpent v.fed → ⊥)
      → IsFedOf told file anchors v []
  fed_of_nothing v is = record { of_file = λ bytes tells. refl; fed = is.0; unspent = is.1 }

  -- one piece more
  pub fed_of_more : (old new : Verifier Sha) (front longer piece read : List ℕ) (came : ℕ)
      → IsFed sha256 anchors false new (front ++ piece) → (IsSpent new.fed → ⊥) → came ≤ length read
      → piece ≡ take came read
      → longer ≡ front ++ take came read → ((bytes : List ℕ) → TellsBytes told file bytes → take came read ≡ take came
      (drop (length front) bytes))
      → IsFedOf told file anchors old front → IsFedOf told file anchors new longer
  fed_of_more old new front longer piece read came feeds unspent fits is grown given before = record {
    of_file = λ bytes tells. front_grows bytes front read longer came (before.of_file bytes tells) fits
        (given bytes tells) grown;
    fed = subst (λ pieces. IsFed sha256 anchors false new pieces) (sym (grown ∙ sym (ap (λ p. front ++ p) is))) feeds;
    unspent = unspent;
  }

  module _ (v : Verifier Sha) (front : List ℕ) (fed : IsFedOf told file anchors v front) where
    -- the file has no more
    pub far_all : (count : ℕ) → length front ≡ count → ((bytes : List ℕ) → TellsBytes told file bytes
        → length bytes ≤ count) → IsFarFront told file front
    far_all count size none = record {
      of_file = fed.of_file;
      far = λ bytes tells. inl (fed.of_file bytes tells ∙ take_all (length front) bytes
          (omega (arith, none bytes tells, size)));
    }

    -- no proof goes on
    pub far_broken : ((pieces : List ℕ) → IsFed sha256 anchors false v pieces → (IsSpent v.fed → ⊥)
        → IsFront proof_layout pieces → ⊥) → IsFarFront told file front
    far_broken broken = record { of_file = fed.of_file; far = λ bytes tells. inr (broken front fed.fed fed.unspent) }

    -- a proof goes on, and so there are few bytes
    pub fed_of_few : ((pieces : List ℕ) → IsFed sha256 anchors false v pieces → (IsSpent v.fed → ⊥)
        → (IsFront proof_layout pieces → ⊥) → ⊥)
        → length front ≤ 4430818
    fed_of_few unbroken = elim (cases_lt 4430818 (length front)) [
      | inl more ↦ absurd (unbroken front fed.fed fed.unspent (λ is. let few = front-size front is in
          omega (arith, few, more)))
      | inr few ↦ few
    ]
