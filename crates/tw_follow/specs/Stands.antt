-- Which list of heads an image stands for, and why an image is opened as none.
use Rattle.std.specs.Prelude.{◌≡◌, ◌⊎◌, ℕ, List}
use Rattle.tw_disk.specs.Found.Found.{Is}
use Rattle.tw_disk.specs.Image.{Image}
use Rattle.tw_pages.specs.declared.open.StoreFault.{StoreFault}
use Rattle.tw_pages.specs.Records.{IsWritten, RecordKind, Served, written_record}
use Rattle.tw_pages.specs.Records.{IsNotOpenedFor as IsNotOpenedAs, IsServed as IsServedAs}
use Rattle.tw_pages.specs.States.{IsBlankOrFirst}
use Rattle.tw_pages.specs.States.{StandsForState}
use Rattle.tw_follow.specs.declared.root.RootRecord.{RootRecord}
use Rattle.tw_follow.specs.HeadLists.{Kept, no_heads}
use Rattle.tw_follow.specs.HeadPages.{found_heads}
use Rattle.tw_follow.specs.Roots.{IsAllowed, root_bytes}

-- the pages keep this list under this root record
pub record KeepsList (pages : Image) (r : RootRecord) (kept : Kept) : Type 0 where
  pub named : kept.name ≡ r.head.from
  pub found : found_heads pages r ≡ Is kept.heads

-- root records of followers
abbrev pub root_kind : (dig : List ℕ → List ℕ) → RecordKind RootRecord
root_kind dig = record { bytes = root_bytes; May = IsAllowed dig }

module _ (dig : List ℕ → List ℕ) where
  -- the image opens as a store with this root record, and P holds of the store's pages
  abbrev pub OpensWith : (image : Image) (root : RootRecord) (P : Image → Type 0) → Type 0
  OpensWith image root P = (pages : Image) × IsWritten (root_kind dig) (written_record root pages) image × P pages

  -- why an image isn't opened: it opens as no store, or its root record is none of a follower
  abbrev pub IsNotOpenedFor : Image → StoreFault → Type 0
  IsNotOpenedFor image fault = IsNotOpenedAs (root_kind dig) image fault

  -- what an image is served as: the follower of a root record and pages, or, for a reason, none
  abbrev pub IsServed : Image → Served RootRecord → Type 0
  IsServed image served = IsServedAs (root_kind dig) image served

  -- the image opens as a store that keeps this list
  abbrev pub StandsFor : Image → Kept → Type 0
  StandsFor image kept = StandsForState (root_kind dig) KeepsList kept image

  -- for the list, or for the next one
  abbrev pub StandsForOneOf : (kept next : Kept) → Image → Type 0
  StandsForOneOf kept next image = StandsFor image kept ⊎ StandsFor image next

  -- nothing was made, or the list of this name that has no head
  abbrev pub IsBlankOrNew : (name : List ℕ) → Image → Type 0
  IsBlankOrNew name image = IsBlankOrFirst (root_kind dig) KeepsList (no_heads name) image
