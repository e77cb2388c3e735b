-- When two values over the same pages are one.
use mathlib.Core.HLevel.{is_prop→PathP}
use Rattle.std.proofs.Common.{◌≡◌}
use Rattle.std.proofs.Props.{props}
use Rattle.tw_disk.specs.declared.pages.Pages.{Ghosts}
use Rattle.tw_disk.specs.declared.shelf.Shelf.{Shelf}
use Rattle.tw_disk.specs.Keeping.{ArePagesOf}
use Rattle.tw_disk.specs.Shelves.{kept_on}
use Rattle.tw_cache.specs.declared.cached.Cached.{Cached}

-- the value over these pages with this shelf
abbrev cached : {P : Type 0} {g : Ghosts P} (pages : P) (shelf : Shelf) → ArePagesOf (g.view pages).list (kept_on shelf)
    → Cached P g
cached pages shelf right = record { pages = pages; shelf = shelf; right = right }

-- two values over the same pages, with the same shelf, are one
pub one-value : {P : Type 0} {g : Ghosts P} (pages : P) (a b : Shelf)
    (a_right : ArePagesOf (g.view pages).list (kept_on a)) (b_right : ArePagesOf (g.view pages).list (kept_on b))
    → a ≡ b → cached {g = g} pages a a_right ≡ cached {g = g} pages b b_right
one-value {g = g} pages a b a_right b_right same = λ i. record {
  pages = pages;
  shelf = same i;
  right = is_prop→PathP (λ j. ArePagesOf (g.view pages).list (kept_on (same j))) (λ j. Prim.hlevel props) a_right
      b_right i;
}
