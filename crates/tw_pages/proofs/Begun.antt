-- A store that has its first record and no page yet.
use Rattle.std.proofs.Common.{◌≡◌, ℕ, List, [], refl, inl, inr, ⊎_elim, ◌⊎◌}
use Rattle.tw_disk.specs.Image.{Image}
use Rattle.tw_disk.specs.Disk.{DiskView, IsAtRest, LeavesOnly, Reads}
use Rattle.tw_disk.proofs.Moments.{leaves_weaker}
use Rattle.tw_pages.specs.Init.{IsBlankOrRoot, first_opening, second_opening}
use Rattle.tw_pages.specs.StoreValue.{IsKept, opening_of, store_disk}
use Rattle.tw_pages.specs.declared.store.Store.{Store}
use Rattle.tw_pages.specs.Records.{HasRoot, IsBlankOrNew, RecordKind, written_record}
use Rattle.tw_pages.specs.Rests.{RestsWith}
use Rattle.tw_pages.proofs.Written.{rests_with}

module _ {R : Type 0} (kind : RecordKind R) (r : R) (first : kind.May 4 1 r) (second : kind.May 4 0 r) (root : List ℕ)
    (root_is : root ≡ kind.bytes r) where
  one_root : HasRoot kind (first_opening root) r
  one_root = record { spelled = root_is; may = first }

  two_root : HasRoot kind (second_opening root) r
  two_root = record { spelled = root_is; may = second }

  pub rests_new : {D : Type 0} {g : _} (view : D → DiskView) (store : Store D g) → IsAtRest (view (store_disk store))
      (λ i. IsKept store i × (opening_of store i ≡ first_opening root))
      → RestsWith view kind store (written_record r [])
  rests_new view store rest = rests_with view kind store (first_opening root) (written_record r []) rest one_root refl

  -- what is left of a store in the making
  begun : (i : Image) → IsBlankOrRoot root i → IsBlankOrNew kind r i
  begun i made = ⊎_elim (λ blank. inl blank) (λ opens. inr (⊎_elim
      (λ one. record { opening = first_opening root; opens = one; has = one_root; pages_are = refl })
      (λ two. record { opening = second_opening root; opens = two; has = two_root; pages_are = refl }) opens)) made

  pub leaves_new : (old new : DiskView) → LeavesOnly old new (λ i. old.may_leave i ⊎ IsBlankOrRoot root i)
      → LeavesOnly old new (λ i. old.may_leave i ⊎ IsBlankOrNew kind r i)
  leaves_new old new run = leaves_weaker old new (λ i. old.may_leave i ⊎ IsBlankOrRoot root i)
      (λ i. old.may_leave i ⊎ IsBlankOrNew kind r i)
      (λ i either. ⊎_elim (λ was. inl was) (λ made. inr (begun i made)) either) run

  pub tells_new : (old new : DiskView) → Reads new (λ i. old.may_leave i ⊎ IsBlankOrRoot root i)
      → Reads new (λ i. old.may_leave i ⊎ IsBlankOrNew kind r i)
  tells_new old new tells =
      record {
        image = tells.image;
        told = tells.told;
        has = ⊎_elim (λ was. inl was) (λ made. inr (begun tells.image made)) tells.has;
      }
