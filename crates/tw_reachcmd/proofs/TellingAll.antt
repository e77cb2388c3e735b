-- What inputs tell of files, and of one file more.
use Rattle.std.proofs.Common.{◌≡◌, ℕ, List, [], ◌∷◌, ◌++◌, refl, ap}
use Rattle.std.specs.Prelude.{Option}
use Rattle.tw_outside.specs.Files.{Files, TellsBytes}
use Rattle.tw_reachcmd.specs.Held.{TellAll}

-- the bytes of all files, and those of the last one
pub record EndsWith (told : Option Files) (files all : List (List ℕ)) (file : List ℕ) : Type 0 where
  pub front : List (List ℕ)
  pub bytes : List ℕ
  pub is : all ≡ front ++ bytes ∷ []
  pub tells_front : TellAll told files front
  pub tells : TellsBytes told file bytes

pub ends_with : (told : Option Files) (files all : List (List ℕ)) (file : List ℕ) → TellAll told (files ++ file ∷ [])
    all → EndsWith told files all file
ends_with told [] [] file tells = absurd tells
ends_with told [] (bytes ∷ []) file tells =
    record { front = []; bytes = bytes; is = refl; tells_front = tt; tells = tells.0 }
ends_with told [] (bytes ∷ more ∷ all) file tells = absurd tells.1
ends_with told (first ∷ files) [] file tells = absurd tells
ends_with told (first ∷ files) (head ∷ all) file tells =
    let rest = ends_with told files all file tells.1 in
    record {
      front = head ∷ rest.front;
      bytes = rest.bytes;
      is = ap (λ more. head ∷ more) rest.is;
      tells_front = (tells.0, rest.tells_front);
      tells = rest.tells;
    }
