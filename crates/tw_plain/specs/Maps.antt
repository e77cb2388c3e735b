-- What printed bounds say by the reader's own lines, of the step and the peer that the first bytes of the low map file name.
use Rattle.std.specs.Prelude.{◌≡◌, ℕ, ◌<◌, ◌^◌, List, [], ◌∷◌, ◌++◌, Option, IfSome}
use Rattle.tw_base.specs.declared.history.thread.Thread.{Thread}
use Rattle.tw_base.specs.format.Fields.{number_bytes}
use Rattle.tw_base.specs.kinds.Names.{IsName}
use Rattle.tw_chain.specs.Proofs.{kind_bytes}
use Rattle.tw_tmap.specs.declared.map_verdict.MapVerdict.TheVariants.{Yes}
use Rattle.tw_tmap.specs.Bounds.{IsBetweenSteps}
use Rattle.tw_tmap.specs.Texts.{map_text}
use Rattle.tw_plain.specs.Hashed.{hashed_by_maps}
use Rattle.tw_plain.specs.Plain.{IsNamedStep, IsSoInLists}

-- a low map file: its kind, the service, the step and the peer that it is of, and all else
abbrev pub low_map : (service : List ℕ) (step : ℕ) (peer rest : List ℕ) → List ℕ
low_map service step peer rest = kind_bytes 6 ++ (service ++ (number_bytes 8 step ++ (peer ++ rest)))

-- what a text can tell of bounds: numbers of 64 bits
abbrev pub AreBounds : (low : ℕ) (high : Option ℕ) (upto : ℕ) → Type 0
AreBounds low high upto = (low < 2 ^ 64) × IfSome high (λ step. step < 2 ^ 64) × (upto < 2 ^ 64)

module _ (dig : List ℕ → List ℕ) where
  -- the text is that of bounds, of the step and the peer that the low file names; and what that says is so by the lines that are held of
  -- the service and of the peer
  pub record IsPlainMap (low_file high_file : List ℕ) (held : List Thread) (text : List ℕ) : Type 0 where
    pub service : List ℕ
    pub step : ℕ
    pub peer : List ℕ
    pub rest : List ℕ
    pub low : ℕ
    pub high : Option ℕ
    pub upto : ℕ
    pub names : IsNamedStep service step × IsName peer
    pub of : low_file ≡ low_map service step peer rest
    pub readable : AreBounds low high upto
    pub tells : text ≡ map_text (Yes low high upto)
    pub so :
        IsSoInLists dig held (service ∷ peer ∷ []) [] (hashed_by_maps dig low_file high_file)
        (λ family. IsBetweenSteps family service step peer low high upto)
