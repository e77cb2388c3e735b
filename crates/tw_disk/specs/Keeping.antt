-- Pages that are kept by their numbers.
use Rattle.std.specs.Prelude.{◌≡◌, ◌-◌, ◌⊎◌, ℕ, List, All, Contains, Option, Some, slice_get}
use Rattle.std.specs.Global.{Box}
use Rattle.tw_disk.specs.Image.{Page, Image}
use Rattle.tw_disk.specs.declared.limits.TheConstants.{FIRST_PAGE}

-- the pages have this one at this number
abbrev pub IsKeptPageOf : Image → ℕ × Box Page → Type 0
IsKeptPageOf pages kept = slice_get pages (kept.0 - FIRST_PAGE) ≡ Some kept.1.value

-- where the list is told, it has each page that is kept at its number
abbrev pub ArePagesOf : Option Image → List (ℕ × Box Page) → Type 0
ArePagesOf list kept = (pages : Image) → list ≡ Some pages → All (IsKeptPageOf pages) kept

-- each page that is kept was kept before, or is this one under this number
abbrev pub AddsAtMost : List (ℕ × Box Page) → List (ℕ × Box Page) → ℕ → Page → Type 0
AddsAtMost old new number page = All (λ e. Contains old e ⊎ ((e.0 ≡ number) × (e.1.value ≡ page))) new
