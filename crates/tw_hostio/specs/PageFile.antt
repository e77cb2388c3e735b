-- What a file of pages tells of itself, what its calls do, and what a crash may leave of it.
use Rattle.std.specs.Prelude.{◌≡◌, ◌⊎◌, ◌↔◌, ℕ, ◌≤◌, List, [], Option}
use Rattle.tw_hostio.specs.FileBytes.{TornBytes}
use Rattle.tw_hostio.specs.declared.file_stage.FileStage.{FileStage}
use Rattle.tw_hostio.specs.declared.file_stage.FileStage.TheVariants.{Closed, Locked, Named}

-- what a file tells of itself at one moment
pub record FileView : Type 1 where
  -- its bytes, where it tells them; a file that isn't there has none. Before it is opened, those that it has once it is locked
  pub bytes : Option (List ℕ)
  -- the bytes that a crash at this moment may leave
  pub may_leave : List ℕ → Type 0
  -- the moment, as a number that doesn't fall
  pub moment : ℕ
  -- the bytes that a crash at some moment from that one on may have left
  pub left_since : ℕ → List ℕ → Type 0
  -- how far it is opened
  pub stage : FileStage
  -- how many calls gave no answer; the count doesn't fall, and stands still at 2^64 - 1
  pub faults : ℕ

-- it is open, so its lock is held
abbrev pub MayRead : FileStage → Type 0
MayRead Closed = ⊥
MayRead Locked = Unit {0}
MayRead Named = Unit {0}

-- it is open to be written, so its lock is held alone, and no crash takes its name away
abbrev pub MayWrite : FileStage → Type 0
MayWrite Closed = ⊥
MayWrite Locked = ⊥
MayWrite Named = Unit {0}

-- nothing but these bytes
abbrev pub OnlyBytes : List ℕ → (List ℕ → Type 0) → Type 0
OnlyBytes bytes outcomes = (c : List ℕ) → outcomes c → c ≡ bytes

-- each new outcome of a crash is an old outcome, torn by a write of so many bytes at this place
abbrev pub FollowsByWrite : (at n : ℕ) → (old new : List ℕ → Type 0) → Type 0
FollowsByWrite at n old new = (c : List ℕ) → new c → (d : List ℕ) × old d × TornBytes at n d c

-- what a crash might have left it may leave still
abbrev pub KeepsOutcomes : (old new : List ℕ → Type 0) → Type 0
KeepsOutcomes old new = (c : List ℕ) → old c → new c

-- time goes on: a crash since an earlier moment might have left what it might have left before, or what it may leave now
pub record FileTimeGoesOn (old new : FileView) : Type 0 where
  pub later : old.moment ≤ new.moment
  pub nothing_else : (t : ℕ) (c : List ℕ) → t ≤ old.moment → new.left_since t c → old.left_since t c ⊎ new.may_leave c
  pub keeps : (t : ℕ) (c : List ℕ) → t ≤ old.moment → old.left_since t c → new.left_since t c

-- the file has and may leave the same as before, and might have left the same since each moment up to then
pub record IsSameFile (old new : FileView) : Type 0 where
  pub bytes : new.bytes ≡ old.bytes
  pub outcomes : (c : List ℕ) → new.may_leave c ↔ old.may_leave c
  pub later : old.moment ≤ new.moment
  pub outcomes_since : (t : ℕ) (c : List ℕ) → t ≤ old.moment → new.left_since t c ↔ old.left_since t c

-- a file that isn't there: it has no bytes, and a crash leaves none
pub record IsAbsent (file : FileView) (bytes : List ℕ) : Type 0 where
  pub none : bytes ≡ []
  pub only : OnlyBytes [] file.may_leave
