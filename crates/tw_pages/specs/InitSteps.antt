-- What an image holds while a store is made, which the private calls speak of.
use Rattle.std.specs.Prelude.{Bool, true, false, ◌+◌, ℕ, ◌<◌, ◌≤◌, List, length}
use Rattle.tw_disk.specs.Image.{Image, page_at}
use Rattle.tw_pages.specs.Store.{IsClosed, IsBody}
use Rattle.tw_disk.specs.declared.limits.TheConstants.{FIRST_PAGE}
use Rattle.tw_pages.specs.declared.limits.TheConstants.{FIRST_BODY}

-- both gates are closed
pub record BothClosed (c : Image) : Type 0 where
  pub first : IsClosed 0 c
  pub second : IsClosed 1 c
  pub room : 2 ≤ length c

-- both bodies stand, whatever the gates are
pub record HasBodies (root : List ℕ) (c : Image) : Type 0 where
  pub first : IsBody (length c) (page_at c FIRST_BODY) 1 FIRST_PAGE root
  pub second : IsBody (length c) (page_at c (FIRST_BODY + 1)) 0 FIRST_PAGE root

-- too few pages, or two closed gates
abbrev pub IsUnmade : Bool → Image → Type 0
IsUnmade true c = length c < FIRST_PAGE
IsUnmade false c = BothClosed c
