-- A file found by its name among those in memory.
use Rattle.std.proofs.Common.{◌≡◌, ℕ, Bool, true, false, cond, List, ◌∷◌, ap, sym, ◌∙◌}
use Rattle.std.specs.Prelude.{Some}
use Rattle.std.specs.Ordering.{nat_cmp}
use Rattle.std.specs.Cmp.Lexicographic.{slice_cmp}
use Rattle.std.specs.FinMap.{find}
use Rattle.std.specs.Str.{bytes_eq}
use Rattle.std.proofs.lemmas.Map.Text.{is_eq-slice_cmp}

-- the first file has the name
pub find-here : (name : List ℕ) (file : List ℕ × List ℕ) (files : List (List ℕ × List ℕ)) → true ≡ bytes_eq name file.0
    → find (slice_cmp nat_cmp) name (file ∷ files) ≡ Some file.1
find-here name file files same =
    ap (λ (b : Bool). cond b (Some file.1) (find (slice_cmp nat_cmp) name files)) (is_eq-slice_cmp name file.0
    ∙ sym same)

-- the first file has another name
pub find-later : (name : List ℕ) (file : List ℕ × List ℕ) (files : List (List ℕ × List ℕ)) → false ≡ bytes_eq name
    file.0
    → find (slice_cmp nat_cmp) name (file ∷ files) ≡ find (slice_cmp nat_cmp) name files
find-later name file files other =
    ap (λ (b : Bool). cond b (Some file.1) (find (slice_cmp nat_cmp) name files)) (is_eq-slice_cmp name file.0
    ∙ sym other)
