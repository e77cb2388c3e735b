-- What pages with kept ones show.
use Rattle.std.specs.Prelude.{ℕ, List}
use Rattle.std.specs.Borrow.{Fml, Lends, MutBor, RattleType}
use Rattle.std.specs.Global.{Box}
use Rattle.tw_disk.specs.Image.{Page}
use Rattle.tw_disk.specs.declared.pages.Pages.{Ghosts}
use Rattle.tw_disk.specs.Shelves.{HoldsPage, emptied_shelf, kept_on, none_kept}
use Rattle.tw_cache.specs.declared.cached.Cached.{Cached}
use Rattle.tw_cache.specs.contracts.cached.Cached.{the_row}

-- the pages that answer for those which aren't kept
abbrev pub inner_of : {P : Type 0} {g : _} → Cached P g → P
inner_of cached = cached.pages

-- the pages that are kept, with their numbers
abbrev pub kept_of : {P : Type 0} {g : _} → Cached P g → List (ℕ × Box Page)
kept_of cached = kept_on cached.shelf

-- it keeps the page of this number
abbrev pub HasKept : {P : Type 0} {g : _} → Cached P g → ℕ → Type 0
HasKept cached page = HoldsPage cached.shelf page

-- over these inner pages, with none kept
abbrev pub emptied : {P : Type 0} {g : _} → Cached P g → P → Cached P g
emptied {g = g} cached pages = record {
  pages = pages;
  shelf = emptied_shelf cached.shelf;
  right = none_kept (g.view pages).list cached.shelf;
}

-- it ends with none kept, over what was made of the inner pages
abbrev pub LendsInner : (P : RattleType) (g : Ghosts P.Denot) → MutBor (Cached P.Denot g) → MutBor P.Denot → Fml
LendsInner P g cached pages = Lends (the_row P g) P cached pages (emptied cached.now)
