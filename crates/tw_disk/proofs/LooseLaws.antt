-- The pages written since the last good barrier are those of the model, and are there.
use Rattle.std.specs.Prelude.{◌≡◌, ℕ, ◌≤◌, List, [], ◌∷◌, ◌++◌, length, refl}
use Rattle.std.proofs.Common.{arith}
use Rattle.std.proofs.lemmas.List.{length-set, length-take}
use Rattle.tw_disk.specs.Image.{Image}
use Rattle.tw_disk.specs.Model.{WrittenPage, step, after}
use Rattle.tw_disk.specs.KeptCalls.{earlier, with_bytes, calls_of, AllFit}
use Rattle.tw_disk.specs.declared.call.Call.{Call}
use Rattle.tw_disk.specs.declared.call.Call.TheVariants.{Overwrite, Append, Barrier}
use Rattle.tw_disk.specs.LooseSteps.{loose_of, AllBelow}

pub loose_is : (s : WrittenPage) (calls : List Call) (image : Image) → (after s (calls_of calls image)).loose ≡ loose_of
    s.loose calls
loose_is s [] image = refl
loose_is s (Overwrite page before ∷ calls) image =
    loose_is (step s (with_bytes (Overwrite page before) (earlier calls image))) calls image
loose_is s (Append page ∷ calls) image = loose_is (step s (with_bytes (Append page) (earlier calls image))) calls image
loose_is s (Barrier ∷ calls) image = loose_is (step s (with_bytes Barrier (earlier calls image))) calls image

below_more : (n m : ℕ) (pages : List ℕ) → n ≤ m → AllBelow n pages → AllBelow m pages
below_more n m [] le all = tt
below_more n m (page ∷ pages) le all = (omega (arith, le, all.0), below_more n m pages le all.1)

below_from : (calls : List Call) (image : Image) (pages : List ℕ) → AllFit calls image
    → AllBelow (length (earlier calls image)) pages → AllBelow (length image) (loose_of pages calls)
below_from [] image pages fits all = all
below_from (Overwrite page before ∷ calls) image pages fits all =
    below_from calls image (page ∷ pages) fits.1
    (fits.0, below_more _ _ pages (omega (arith, length-set (earlier calls image) page before)) all)
below_from (Append page ∷ calls) image pages fits all =
    below_from calls image (page ∷ pages) fits.1
    (omega (arith, fits.0), below_more _ _ pages (omega (arith, length-take page (earlier calls image))) all)
below_from (Barrier ∷ calls) image pages fits all = below_from calls image [] fits.1 tt

-- the pages of calls that fit are there
pub loose_below : (calls : List Call) (image : Image) → AllFit calls image → AllBelow (length image) (loose_of [] calls)
loose_below calls image fits = below_from calls image [] fits tt

pub loose_of-overwrite : (pages : List ℕ) (calls : List Call) (call : Call) (page : ℕ)
    → ((ps : List ℕ) → loose_of ps (call ∷ []) ≡ page ∷ ps) → loose_of pages (calls ++ call ∷ []) ≡ page ∷ loose_of
    pages calls
loose_of-overwrite pages [] call page is = is pages
loose_of-overwrite pages (Overwrite p before ∷ calls) call page is = loose_of-overwrite (p ∷ pages) calls call page is
loose_of-overwrite pages (Append p ∷ calls) call page is = loose_of-overwrite (p ∷ pages) calls call page is
loose_of-overwrite pages (Barrier ∷ calls) call page is = loose_of-overwrite [] calls call page is

pub loose_of-barrier : (pages : List ℕ) (calls : List Call) → loose_of pages (calls ++ Barrier ∷ []) ≡ []
loose_of-barrier pages [] = refl
loose_of-barrier pages (Overwrite p before ∷ calls) = loose_of-barrier (p ∷ pages) calls
loose_of-barrier pages (Append p ∷ calls) = loose_of-barrier (p ∷ pages) calls
loose_of-barrier pages (Barrier ∷ calls) = loose_of-barrier [] calls
