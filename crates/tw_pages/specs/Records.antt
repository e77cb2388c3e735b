-- Root records: how one is spelled, in which stores it may stand, and what an image opens as by one.
use Rattle.std.specs.Prelude.{◌≡◌, ◌⊎◌, ℕ, List, []}
use Rattle.tw_disk.specs.Image.{Image}
use Rattle.tw_pages.specs.Store.{Opening, OpensAs, used_of}
use Rattle.tw_pages.specs.Slots.{IsBlank, IsRefusedFor}
use Rattle.tw_pages.specs.declared.open.StoreFault.{StoreFault}
use Rattle.tw_pages.specs.declared.open.StoreFault.TheVariants.{NotAStore}
pub use Rattle.tw_disk.specs.Kinds.{RecordKind}

-- a root record, and the committed pages of its store
pub record Written (R : Type 0) : Type 0 where
  pub root : R
  pub pages : Image

abbrev pub written_record : {R : Type 0} → R → Image → Written R
written_record root pages = record { root = root; pages = pages }

-- what an image is served as: the store of this record and these pages, or, for this reason, none
pub data Served (R : Type 0) : Type 0 where
  Opened : Written R → Served R
  Unopened : StoreFault → Served R

module _ {R : Type 0} (kind : RecordKind R) where
  -- the store's root record is this one, and may stand in it
  pub record HasRoot (o : Opening) (r : R) : Type 0 where
    pub spelled : o.root ≡ kind.bytes r
    pub may : kind.May (used_of o) o.generation r

  -- bytes are one record at most of those that may stand in a store
  abbrev pub IsOnce : Type 0
  IsOnce = (root : List ℕ) (used generation : ℕ) (r s : R) → root ≡ kind.bytes r → kind.May used generation r → root ≡ kind.bytes s → kind.May used generation s → r ≡ s

  -- the image opens as a store with this record and these pages
  pub record IsWritten (w : Written R) (image : Image) : Type 0 where
    pub opening : Opening
    pub opens : OpensAs opening image
    pub has : HasRoot opening w.root
    pub pages_are : opening.pages ≡ w.pages

  -- with the one or with the other
  abbrev pub IsOneOf : (w next : Written R) → Image → Type 0
  IsOneOf w next image = IsWritten w image ⊎ IsWritten next image

  -- why an image isn't opened: it opens as no store, or its root record is none of this kind
  abbrev pub IsNotOpenedFor : Image → StoreFault → Type 0
  IsNotOpenedFor image fault =
      IsRefusedFor image fault
      ⊎ ((o : Opening) × OpensAs o image × ((r : R) → HasRoot o r → ⊥) × (fault ≡ NotAStore o.slot))

  abbrev pub IsServed : Image → Served R → Type 0
  IsServed image (Opened w) = IsWritten w image
  IsServed image (Unopened fault) = IsNotOpenedFor image fault

  -- no store was begun, or it has this record and no page
  abbrev pub IsBlankOrNew : R → Image → Type 0
  IsBlankOrNew root image = IsBlank image ⊎ IsWritten (written_record root []) image
