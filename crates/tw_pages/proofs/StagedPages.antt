-- A staged page is one of the pages of the store.
use Rattle.std.specs.Prelude.{◌≡◌, ℕ, ◌-◌, ◌≤◌, [], length, take, drop, Option, Some, None, refl}
use Rattle.std.specs.Option.{option_map, IsSomeAnd}
use Rattle.std.proofs.Common.{arith, sym, ◌∙◌, subst, ap, length-drop}
use Rattle.std.proofs.lemmas.List.{length-take, get_or-append_right}
use Rattle.tw_disk.specs.Image.{Image, page_at}
use Rattle.tw_disk.specs.Disk.{DiskView}
use Rattle.tw_pages.specs.declared.store.Store.{Store}
use Rattle.tw_pages.specs.Same.{store_pages}

module _ {D : Type 0} {g : _} (view : D → DiskView) where
  pub staged_page : (s : Store D g) (count : Option ℕ) (image : Option Image) (pages : Image) (page : ℕ)
      → ((c : Image) → image ≡ Some c → count ≡ Some (length c)) → IsSomeAnd count (λ n. s.used ≤ n) → 4 ≤ s.used
      → s.used ≤ page
      → option_map (store_pages s) image ≡ Some pages → page_at s.staged.items (page - s.used) ≡ page_at pages
      (page - 4)
  staged_page s count None pages page told room low above is = cc
  staged_page s count (Some c) pages page told room low above is =
      let same : store_pages s c ≡ pages = cc in
      let P : Option ℕ → Type 0 = λ o. IsSomeAnd o (λ n. s.used ≤ n) in
      let fits : s.used ≤ length c = subst P (told c refl) room in
      let size : length (take (s.used - 4) (drop 4 c)) ≡ s.used - 4 =
      omega (arith, length-take (s.used - 4) (drop 4 c), length-drop 4 c) in
      ap (λ (k : ℕ). page_at s.staged.items k) (omega arith)
      ∙ sym (get_or-append_right (take (s.used - 4) (drop 4 c)) s.staged.items (s.used - 4) (page - 4) [] size
      (omega arith))
      ∙ ap (λ (ps : Image). page_at ps (page - 4)) same
