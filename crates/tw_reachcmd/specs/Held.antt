-- What files hold.
use Rattle.std.specs.Prelude.{◌≡◌, ℕ, List, [], ◌∷◌, Option}
use Rattle.tw_base.specs.format.Formats.{Format, IsPlace, Spells, SpellsNothing}
use Rattle.tw_outside.specs.Files.{Files, IsThere, TellsBytes}

module _ {X : Type 0} (layout : Format X) (told : Option Files) (file : List ℕ) where
  -- the file is there, and these bytes spell the value; where the inputs tell the file's bytes, they are these
  pub record FileHolds (x : X) : Type 0 where
    pub there : IsThere told file
    pub bytes : List ℕ
    pub spelled : Spells layout bytes x
    pub same : (others : List ℕ) → TellsBytes told file others → others ≡ bytes

  -- the file is there; where the inputs tell its bytes, they spell nothing, and this is the place of the first one at which no word
  -- goes on
  pub record HoldsNone (place : ℕ) : Type 0 where
    pub there : IsThere told file
    pub nothing : (bytes : List ℕ) → TellsBytes told file bytes → SpellsNothing layout bytes × IsPlace layout bytes place

-- the inputs tell that these are the bytes of the files, one after another
abbrev pub TellAll : Option Files → (files all : List (List ℕ)) → Type 0
TellAll told [] [] = Unit {0}
TellAll told (file ∷ files) (bytes ∷ all) = TellsBytes told file bytes × TellAll told files all
TellAll told _ _ = ⊥
