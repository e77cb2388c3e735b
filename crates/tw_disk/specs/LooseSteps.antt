-- The pages written since the last good barrier, by the kept calls, which the private calls speak of.
use Rattle.std.specs.Prelude.{ℕ, ◌<◌, List, [], ◌∷◌}
use Rattle.tw_disk.specs.declared.call.Call.{Call}
use Rattle.tw_disk.specs.declared.call.Call.TheVariants.{Overwrite, Append, Barrier}

-- the pages, the last one first, where these were written before
abbrev pub loose_of : List ℕ → List Call → List ℕ
loose_of pages [] = pages
loose_of pages (Overwrite page before ∷ calls) = loose_of (page ∷ pages) calls
loose_of pages (Append page ∷ calls) = loose_of (page ∷ pages) calls
loose_of pages (Barrier ∷ calls) = loose_of [] calls

-- each is below this number
abbrev pub AllBelow : ℕ → List ℕ → Type 0
AllBelow n [] = Unit {0}
AllBelow n (page ∷ pages) = (page < n) × AllBelow n pages
