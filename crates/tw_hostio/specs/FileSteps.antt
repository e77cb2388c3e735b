-- What a file in memory has become by its calls, and what a crash may have left of it.
use Rattle.std.specs.Prelude.{◌≡◌, ℕ, ◌≤◌, List, [], ◌∷◌, ◌++◌, length, take}
use Rattle.tw_hostio.specs.FileBytes.{put_bytes, TornBytes}
use Rattle.tw_hostio.specs.declared.file_step.FileStep.{FileStep}
use Rattle.tw_hostio.specs.declared.file_step.FileStep.TheVariants.{Wrote, Synced}

-- one of these outcomes, torn by a write of so many bytes at this place
pub record TornOf (outcomes : List ℕ → Type 0) (at n : ℕ) (c : List ℕ) : Type 0 where
  pub before : List ℕ
  pub was : outcomes before
  pub torn : TornBytes at n before c

-- the bytes after these calls
abbrev pub written_after : List ℕ → List FileStep → List ℕ
written_after bytes [] = bytes
written_after bytes (Wrote at piece ∷ steps) = written_after (put_bytes at piece.items bytes) steps
written_after bytes (Synced ∷ steps) = written_after bytes steps

-- what a crash may leave after these calls, of such bytes and by what it might have left before them
abbrev pub LeftAfter : List ℕ → (List ℕ → Type 0) → List FileStep → List ℕ → Type 0
LeftAfter bytes outcomes [] = outcomes
LeftAfter bytes outcomes (Wrote at piece ∷ steps) = LeftAfter (put_bytes at piece.items bytes) (TornOf outcomes at (length piece.items)) steps
LeftAfter bytes outcomes (Synced ∷ steps) = LeftAfter bytes (λ c. c ≡ bytes) steps

-- what it may leave of a file that was made with these bytes, all of them stable
abbrev pub LeftOf : List ℕ → List FileStep → List ℕ → Type 0
LeftOf first steps = LeftAfter first (λ c. c ≡ first) steps

-- what it may have left at some moment from t on, where the moments are the calls
pub record LeftSince (first : List ℕ) (steps : List FileStep) (t : ℕ) (c : List ℕ) : Type 0 where
  pub at : ℕ
  pub from : t ≤ at
  pub to : at ≤ length steps
  pub left : LeftOf first (take at steps) c

-- the call wrote this piece at this place
abbrev pub IsWriteOf : ℕ → List ℕ → FileStep → Type 0
IsWriteOf at piece (Wrote place kept) = (place ≡ at) × (kept.items ≡ piece)
IsWriteOf at piece Synced = ⊥

-- a write of this piece was kept behind the earlier calls
pub record IsWriteKept (at : ℕ) (piece : List ℕ) (old new : List FileStep) : Type 0 where
  pub step : FileStep
  pub is : IsWriteOf at piece step
  pub steps : new ≡ old ++ step ∷ []
