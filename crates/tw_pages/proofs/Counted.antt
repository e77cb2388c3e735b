-- How many pages a store uses.
use Rattle.std.proofs.Common.{◌≡◌, ℕ, ◌+◌, ◌≤◌, [], ◌++◌, length, ap, ◌∙◌}
use Rattle.std.proofs.lemmas.List.{append-nil}
use Rattle.std.specs.Prelude.{Option, Some}
use Rattle.std.specs.Option.{option_map, IsSomeAnd}
use Rattle.tw_disk.specs.Disk.{DiskView}
use Rattle.tw_disk.specs.Image.{Image}
use Rattle.tw_pages.specs.StoreValue.{opening_of, staged_of, store_disk}
use Rattle.tw_pages.specs.Same.{store_count, store_pages}
use Rattle.tw_pages.specs.SameSteps.{told_pages}
use Rattle.tw_pages.specs.Store.{used_of}
use Rattle.tw_pages.specs.declared.store.Store.{Store}

-- where the disk tells this content and nothing is staged, the count is that of the opening
pub counted : {D : Type 0} {g : _} (view : D → DiskView) (store : Store D g) (count : Option ℕ) (c : Image)
    → ((i : Image) → (view (store_disk store)).content ≡ Some i → count ≡ Some (length i))
    → IsSomeAnd count (λ n. store.used ≤ n) → (view (store_disk store)).content ≡ Some c → staged_of store ≡ []
    → store_count store ≡ used_of (opening_of store c)
counted view store count c is_told room told clean =
    let list : option_map (store_pages store) (view (store_disk store)).content ≡ Some (store_pages store c) =
    ap (λ o. option_map (store_pages store) o) told in
    let all = told_pages view store count (view (store_disk store)).content (store_pages store c) is_told room
    store.used_from list in
    all ∙ ap (λ (staged : Image). 4 + length ((opening_of store c).pages ++ staged)) clean
    ∙ ap (λ (ps : Image). 4 + length ps) (append-nil (opening_of store c).pages)
