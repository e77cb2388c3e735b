-- What was read of a proof file, and kept.
use Rattle.std.specs.Prelude.{◌≡◌, ◌⊎◌, ℕ, List, Option, false}
use Rattle.sha2.specs.Sha256.{sha256}
use Rattle.tw_base.specs.declared.history.thread.Thread.{Thread}
use Rattle.tw_base.specs.declared.kinds.hasher.Sha.{Sha}
use Rattle.tw_base.specs.format.Formats.{IsFront}
use Rattle.tw_outside.specs.Files.{Files, IsFrontOfFile, TellsBytes}
use Rattle.tw_pieces.specs.Feeding.{IsSpent}
use Rattle.tw_chain.specs.Proofs.{proof_layout}
use Rattle.tw_verifier.specs.declared.verifier.Verifier.{Verifier}
use Rattle.tw_verifier.specs.Verifying.{IsFed}

-- first bytes of the file: all of them, or some at which no proof goes on
pub record IsFarFront (told : Option Files) (file front : List ℕ) : Type 0 where
  pub of_file : IsFrontOfFile told file front
  pub far : (bytes : List ℕ) → TellsBytes told file bytes → (front ≡ bytes) ⊎ (IsFront proof_layout front → ⊥)

-- the verifier was fed these first bytes of the file, and memory was left for each piece
pub record IsFedOf (told : Option Files) (file : List ℕ) (anchors : List Thread) (v : Verifier Sha) (front : List ℕ) : Type 0 where
  pub of_file : IsFrontOfFile told file front
  pub fed : IsFed sha256 anchors false v front
  pub unspent : IsSpent v.fed → ⊥
