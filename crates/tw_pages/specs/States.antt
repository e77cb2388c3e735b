-- What pages keep under a root record: a state, of whatever type.
use Rattle.std.specs.Prelude.{◌⊎◌, ℕ, List}
use Rattle.tw_disk.specs.Disk.{DiskView}
use Rattle.tw_disk.specs.Image.{Image}
use Rattle.tw_pages.specs.Slots.{IsBlank}
use Rattle.tw_pages.specs.declared.store.Store.{Store}
use Rattle.tw_pages.specs.Records.{IsWritten, RecordKind, Written, written_record}
use Rattle.tw_pages.specs.Rests.{RestsWith}

module _ {R S : Type 0} (kind : RecordKind R) (Keeps : Image → R → S → Type 0) where
  -- the image opens as a store whose pages keep the state under its record
  pub record StandsForState (s : S) (image : Image) : Type 0 where
    pub w : Written R
    pub is : IsWritten kind w image
    pub keeps : Keeps w.pages w.root s

  abbrev pub StandsForOneState : (s next : S) → Image → Type 0
  StandsForOneState s next image = StandsForState s image ⊎ StandsForState next image

  abbrev pub IsBlankOrFirst : S → Image → Type 0
  IsBlankOrFirst first image = IsBlank image ⊎ StandsForState first image

  -- the store value keeps the state under this record, its disk being at rest
  pub record ServesState {D : Type 0} {g : _} (view : D → DiskView) (store : Store D g) (root : R) (s : S) : Type 0 where
    pub pages : Image
    pub rests : RestsWith view kind store (written_record root pages)
    pub keeps : Keeps pages root s
