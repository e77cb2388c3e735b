-- The pages on a shelf.
use Rattle.std.specs.Prelude.{◌≡◌, ℕ, List, [], Option, Some, None, IfSome, IsSome, nat_eq}
use Rattle.std.specs.Global.{Box}
use Rattle.std.specs.Map.{lookup}
use Rattle.std.proofs.lemmas.List.Elements.{All-nil}
use Rattle.lru.specs.LruCache.{LruCache, lru_cache}
use Rattle.tw_disk.specs.Image.{Image, Page}
use Rattle.tw_disk.specs.Keeping.{ArePagesOf, IsKeptPageOf}
use Rattle.tw_disk.specs.declared.limits.TheConstants.{MOST_KEPT}
use Rattle.tw_disk.specs.declared.shelf.Shelf.{Shelf}

-- those in the room for them, where there was any
abbrev pub shelf_entries : Option (LruCache ℕ (Box Page)) → List (ℕ × Box Page)
shelf_entries None = []
shelf_entries (Some kept) = kept.entries

-- the pages with their numbers
abbrev pub kept_on : Shelf → List (ℕ × Box Page)
kept_on shelf = shelf_entries shelf.kept

-- one of them has this number
abbrev pub HoldsPage : Shelf → ℕ → Type 0
HoldsPage shelf page = IsSome (lookup (nat_eq page) (kept_on shelf))

-- the room with no page in it
abbrev pub emptied_room : Option (LruCache ℕ (Box Page)) → Option (LruCache ℕ (Box Page))
emptied_room None = None
emptied_room (Some kept) = Some (lru_cache [] kept.cap)

-- that room has the same size
pub emptied_size : (room : Option (LruCache ℕ (Box Page))) → IfSome room (λ kept. kept.cap ≡ MOST_KEPT)
    → IfSome (emptied_room room) (λ kept. kept.cap ≡ MOST_KEPT)
emptied_size None size = size
emptied_size (Some kept) size = size

-- the shelf with no page on it
abbrev pub emptied_shelf : Shelf → Shelf
emptied_shelf shelf = record { kept = emptied_room shelf.kept; room = emptied_size shelf.kept shelf.room }

-- what is in such a room is of whatever pages
none_in_room : (list : Option Image) (room : Option (LruCache ℕ (Box Page))) → ArePagesOf list (shelf_entries (emptied_room room))
none_in_room list None = λ image _. All-nil (IsKeptPageOf image)
none_in_room list (Some kept) = λ image _. All-nil (IsKeptPageOf image)

-- what is on such a shelf is of whatever pages
pub none_kept : (list : Option Image) (shelf : Shelf) → ArePagesOf list (kept_on (emptied_shelf shelf))
none_kept list shelf = none_in_room list shelf.kept
