-- A store value whose disk is at rest.
use Rattle.std.specs.Prelude.{◌≡◌, ℕ, List}
use Rattle.tw_disk.specs.Disk.{DiskView, IsAtRest}
use Rattle.tw_disk.specs.Image.{Image}
use Rattle.tw_pages.specs.StoreValue.{IsKept, opening_of, store_disk}
use Rattle.tw_pages.specs.declared.store.Store.{Store}
use Rattle.tw_pages.specs.Records.{HasRoot, RecordKind, Written}

-- the image opens as the store that the value keeps, with this record and these committed pages
pub record HasPages {D R : Type 0} {g : _} (kind : RecordKind R) (store : Store D g) (w : Written R) (image : Image) : Type 0 where
  pub kept : IsKept store image
  pub has : HasRoot kind (opening_of store image) w.root
  pub pages_are : (opening_of store image).pages ≡ w.pages

-- the disk tells its content, which is such an image, and a crash now leaves nothing else
abbrev pub RestsWith : {D R : Type 0} {g : _} → (view : D → DiskView) → RecordKind R → Store D g → Written R → Type 0
RestsWith view kind store w = IsAtRest (view (store_disk store)) (HasPages kind store w)
