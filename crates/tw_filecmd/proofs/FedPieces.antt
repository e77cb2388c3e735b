-- A verifier that is fed a file, piece by piece.
use Rattle.std.proofs.Common.{◌≡◌, ℕ, ◌+◌, ◌≤◌, List, ◌++◌, length, take, drop, Bool, ap, sym, ◌∙◌, subst}
use Rattle.std.proofs.Common.{arith, inl, inr}
use Rattle.std.specs.Prelude.{Option}
use Rattle.std.proofs.lemmas.Bool.{cases_lt}
use Rattle.std.proofs.lemmas.List.{length-append, length-take-le, take_all}
use Rattle.sha2.specs.Sha256.{sha256}
use Rattle.tw_base.specs.declared.kinds.hasher.Sha.{Sha}
use Rattle.tw_base.specs.declared.history.thread.Thread.{Thread}
use Rattle.tw_pieces.specs.Feeding.{IsSpent}
use Rattle.tw_base.specs.format.Formats.{IsFront}
use Rattle.tw_outside.specs.Files.{Came, Files, TellsBytes}
use Rattle.tw_outside.proofs.Fronts.{front_grows}
use Rattle.tw_verifier.specs.declared.verifier.Verifier.{Verifier}
use Rattle.tw_chain.specs.Proofs.{proof_layout}
use Rattle.tw_verifier.specs.Verifying.{IsFed}
use Rattle.tw_filecmd.specs.Feeding.{IsFedFar, IsFedFront}
use Rattle.tw_filecmd.proofs.ProofFronts.{front-size}

-- the same of inputs that tell the same
pub fed_told : {before after : Option Files} {file : List ℕ} {anchors : List Thread} {strict : Bool}
    {old new : Verifier Sha} {at count : ℕ} → before ≡ after
    → (IsFedFront before file anchors strict old at → IsFedFront before file anchors strict new count)
    → IsFedFront after file anchors strict old at → IsFedFront after file anchors strict new count
fed_told {file = file} {anchors = anchors} {strict = strict} {old = old} {new = new} {at = at} {count = count} same feeds =
    subst (λ told. IsFedFront told file anchors strict old at → IsFedFront told file anchors strict new count) same
    feeds

module _ (told : Option Files) (file : List ℕ) (anchors : List Thread) (strict : Bool) where
  -- one piece more
  pub fed_more : (old new : Verifier Sha) (at came : ℕ) (piece read : List ℕ)
      → ((pieces : List ℕ) → IsFed sha256 anchors strict old pieces → IsFed sha256 anchors strict new (pieces ++ piece))
      → (IsSpent new.fed → ⊥) → came ≤ length read → piece ≡ take came read
      → ((bytes : List ℕ) → TellsBytes told file bytes → Came bytes at read came)
      → IsFedFront told file anchors strict old at → IsFedFront told file anchors strict new (at + came)
  fed_more old new at came piece read feeds unspent fits is given before = record {
    front = before.front ++ piece;
    size = omega (arith, length-append before.front piece, ap length is, length-take-le came read fits, before.size);
    of_file = λ bytes tells.
        let At : ℕ → Type 0 = λ k. take came read ≡ take came (drop k bytes) in
        front_grows bytes before.front read (before.front ++ piece) came (before.of_file bytes tells) fits
        (subst At (sym before.size) (given bytes tells).given) (ap (λ p. before.front ++ p) is);
    fed = feeds before.front before.fed;
    unspent = unspent;
  }

  module _ (v : Verifier Sha) (count : ℕ) (front : IsFedFront told file anchors strict v count) where
    -- the file has no more
    pub fed_all : ((bytes : List ℕ) → TellsBytes told file bytes → length bytes ≤ count) → IsFedFar told file anchors
        strict v
    fed_all none = record {
      front = front.front;
      fed = front.fed;
      of_file = front.of_file;
      far = λ bytes tells. inl (front.of_file bytes tells ∙ take_all (length front.front) bytes
          (omega (arith, none bytes tells, front.size)));
    }

    -- no proof goes on
    pub fed_broken : ((pieces : List ℕ) → IsFed sha256 anchors strict v pieces → (IsSpent v.fed → ⊥)
        → IsFront proof_layout pieces → ⊥)
        → IsFedFar told file anchors strict v
    fed_broken broken = record {
      front = front.front;
      fed = front.fed;
      of_file = front.of_file;
      far = λ bytes tells. inr (broken front.front front.fed front.unspent);
    }

    -- a proof goes on, and so there are few bytes
    pub fed_few : ((pieces : List ℕ) → IsFed sha256 anchors strict v pieces → (IsSpent v.fed → ⊥)
        → (IsFront proof_layout pieces → ⊥) → ⊥)
        → count ≤ 4430818
    fed_few unbroken = elim (cases_lt 4430818 count) [
      | inl more ↦
          absurd (
          unbroken front.front front.fed front.unspent
          (λ is. let few = front-size front.front is in omega (arith, few, front.size, more))
          )
      | inr few ↦ few
    ]
