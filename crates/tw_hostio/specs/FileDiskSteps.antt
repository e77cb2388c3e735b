-- What holds of a disk over a file, whatever its calls were. These lemmas stand in specs/ since the laws of an impl cite them.
use Rattle.std.specs.Prelude.{◌≡◌, ℕ, List, length, Option, Some, None, Bool, true, false, refl}
use Rattle.std.specs.Coded.{Unit-prop}
use Rattle.std.specs.Option.{option_map}
use Rattle.std.proofs.Math.Nat.{ℕ_set}
use Rattle.std.proofs.Common.{ap}
use Rattle.tw_disk.specs.Image.{Image}
use Rattle.tw_hostio.specs.FileBytes.{whole_pages}
use Rattle.tw_hostio.specs.FileDisk.{ArePagesOfOutcome, page_count, IsCountOf}

pub count_of-prop : (bytes : Option (List ℕ)) (counted : Option ℕ) (in_doubt : Bool) → IsProp (IsCountOf bytes counted in_doubt)
count_of-prop None counted in_doubt = Unit-prop
count_of-prop (Some bytes) None in_doubt = Unit-prop
count_of-prop (Some bytes) (Some n) true = Unit-prop
count_of-prop (Some bytes) (Some n) false = ℕ_set _ _

-- a told content has as many pages as are told
pub told_page_count : (bytes : Option (List ℕ)) (counted : Option ℕ) (c : Image) → option_map whole_pages bytes ≡ Some c
    → page_count (option_map whole_pages bytes) counted ≡ Some (length c)
told_page_count None counted c is = cc
told_page_count (Some bytes) counted c is = let same : whole_pages bytes ≡ c = cc in ap (λ (i : Image). Some (length i)) same

-- the pages as they read are those of an outcome
pub told_file_pages : (bytes : Option (List ℕ)) (outcomes : List ℕ → Type 0) → ((b : List ℕ) → bytes ≡ Some b → outcomes b)
    → (c : Image) → option_map whole_pages bytes ≡ Some c → ArePagesOfOutcome outcomes c
told_file_pages None outcomes reads c is = cc
told_file_pages (Some bytes) outcomes reads c is = record { bytes = bytes; left = reads bytes refl; pages = cc }

-- pages of one outcome are pages of another
pub pages_on : (one other : List ℕ → Type 0) (c : Image) → ((b : List ℕ) → one b → other b) → ArePagesOfOutcome one c → ArePagesOfOutcome other c
pages_on one other c on pages = record { bytes = pages.bytes; left = on pages.bytes pages.left; pages = pages.pages }
