-- A store that is the same, and the number of its pages. These lemmas stand in specs/ since the laws of an impl cite them.
use Rattle.std.specs.Prelude.{◌≡◌, ℕ, ◌+◌, ◌-◌, ◌≤◌, length, take, drop, Option, Some, None, refl}
use Rattle.std.specs.Option.{option_map, IsSomeAnd}
use Rattle.std.proofs.Common.{arith, ◌∙◌, subst, ap, length-append, length-drop}
use Rattle.std.proofs.lemmas.List.{length-take}
use Rattle.tw_disk.specs.Image.{Image}
use Rattle.tw_disk.specs.Disk.{DiskView}
use Rattle.tw_disk.specs.DiskSteps.{same_disk, same_disk_on}
use Rattle.tw_pages.specs.declared.store.Store.{Store}
use Rattle.tw_pages.specs.Same.{store_pages, store_count, IsSameStore}
use Rattle.tw_disk.specs.declared.limits.TheConstants.{FIRST_PAGE}

module _ {D : Type 0} {g : _} (view : D → DiskView) where
  pub is_same_itself : (s : Store D g) → IsSameStore view s s
  is_same_itself s = record { root = refl; generation = refl; slot = refl; used = refl; spare = refl; disk = same_disk (view s.disk) }

  pub is_same_on : (a b c : Store D g) → IsSameStore view a b → IsSameStore view b c → IsSameStore view a c
  is_same_on a b c first second = record {
    root = second.root ∙ first.root;
    generation = second.generation ∙ first.generation;
    slot = second.slot ∙ first.slot;
    used = second.used ∙ first.used;
    spare = second.spare ∙ first.spare;
    disk = same_disk_on (view a.disk) (view b.disk) (view c.disk) first.disk second.disk;
  }

  pub told_pages : (s : Store D g) (count : Option ℕ) (image : Option Image) (pages : Image) → ((c : Image) → image ≡ Some c → count ≡ Some (length c)) → IsSomeAnd count (λ n. s.used ≤ n) → 4 ≤ s.used → option_map (store_pages s) image ≡ Some pages → store_count s ≡ 4 + length pages
  told_pages s count None pages told room low is = cc
  told_pages s count (Some c) pages told room low is =
      let same : store_pages s c ≡ pages = cc in
      let P : Option ℕ → Type 0 = λ o. IsSomeAnd o (λ n. s.used ≤ n) in
      let fits : s.used ≤ length c = subst P (told c refl) room in
      omega (arith, ap length same, length-append (take (s.used - FIRST_PAGE) (drop FIRST_PAGE c)) s.staged.items, length-take (s.used - FIRST_PAGE) (drop FIRST_PAGE c), length-drop FIRST_PAGE c)

-- the first four pages are counted
pub counts_first : {D : Type 0} {g : _} (s : Store D g) → 4 ≤ s.used → 4 ≤ store_count s
counts_first s low = omega (arith, low)
