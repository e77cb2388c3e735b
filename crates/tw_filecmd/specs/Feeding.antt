-- What a verifier was fed of a proof file.
use Rattle.std.specs.Prelude.{◌≡◌, ◌⊎◌, ℕ, List, length, Bool, Option}
use Rattle.sha2.specs.Sha256.{sha256}
use Rattle.tw_base.specs.declared.kinds.hasher.Sha.{Sha}
use Rattle.tw_base.specs.declared.history.thread.Thread.{Thread}
use Rattle.tw_pieces.specs.Feeding.{IsSpent}
use Rattle.tw_base.specs.format.Formats.{IsFront}
use Rattle.tw_outside.specs.Files.{Files, IsFrontOfFile, TellsBytes}
use Rattle.tw_verifier.specs.declared.verifier.Verifier.{Verifier}
use Rattle.tw_chain.specs.Proofs.{proof_layout}
use Rattle.tw_verifier.specs.Verifying.{IsFed}

module _ (told : Option Files) (file : List ℕ) (anchors : List Thread) (strict : Bool) where
  -- the verifier was fed so many bytes of the file, its first ones, and memory was left for each piece
  pub record IsFedFront (v : Verifier Sha) (count : ℕ) : Type 0 where
    pub front : List ℕ
    pub size : length front ≡ count
    pub of_file : IsFrontOfFile told file front
    pub fed : IsFed sha256 anchors strict v front
    pub unspent : IsSpent v.fed → ⊥

  -- it was fed all of the file, or first bytes of it at which no proof goes on
  pub record IsFedFar (v : Verifier Sha) : Type 0 where
    pub front : List ℕ
    pub fed : IsFed sha256 anchors strict v front
    pub of_file : IsFrontOfFile told file front
    pub far : (bytes : List ℕ) → TellsBytes told file bytes → (front ≡ bytes) ⊎ (IsFront proof_layout front → ⊥)
