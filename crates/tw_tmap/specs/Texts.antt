-- What the program writes of two map files, and its status.
use Rattle.std.specs.Prelude.{ℕ, List, [], ◌∷◌, ◌++◌, Option, Some, None, codes}
use Rattle.tw_text.specs.Lines.{line}
use Rattle.tw_text.specs.Reports.{gap_text, rejected_text}
use Rattle.tw_text.specs.declared.field.Field.{Field}
use Rattle.tw_text.specs.declared.field.Field.TheVariants.{Word, Number}
use Rattle.tw_tmap.specs.declared.map_verdict.MapVerdict.{MapVerdict}
use Rattle.tw_tmap.specs.declared.map_verdict.MapVerdict.TheVariants.{Yes, No, Gap}

-- a number, or that there is none
abbrev pub bound_field : Option ℕ → Field
bound_field None = Word (codes "none")
bound_field (Some n) = Number n

-- the lines of accepted files, the line of the lowest reason, or that of the second file, which doesn't fit the first
abbrev pub map_text : MapVerdict → List ℕ
map_text (Yes low high upto) =
    line (codes "accepted map") []
    ++ (line (codes "low") (Number low ∷ [])
    ++ (line (codes "high") (bound_field high ∷ []) ++ line (codes "upto") (Number upto ∷ [])))
map_text (No reason) = rejected_text reason
map_text Gap = gap_text 2

-- the status of each: 0 where the map files are accepted
abbrev pub map_status : MapVerdict → ℕ
map_status (Yes low high upto) = 0
map_status (No reason) = 1
map_status Gap = 1
