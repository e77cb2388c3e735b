-- What an image holds between the phases of a commit, which the private calls speak of.
use Rattle.std.specs.Prelude.{◌≡◌, ℕ, ◌+◌, ◌<◌, ◌≤◌, List, ◌++◌, length}
use Rattle.tw_disk.specs.Image.{Image, page_at}
use Rattle.tw_pages.specs.Store.{Opening, OpensAlone, IsBody, body_codec, used_of, spare_of}
use Rattle.tw_disk.specs.declared.limits.TheConstants.{FIRST_PAGE}
use Rattle.tw_pages.specs.declared.limits.TheConstants.{FIRST_BODY}

-- these pages stand in it one after another
pub record HoldsPages (at : ℕ) (pages : Image) (c : Image) : Type 0 where
  pub room : at + length pages ≤ length c
  pub each : (k : ℕ) → k < length pages → page_at c (at + k) ≡ page_at pages k

-- the image opens as the old store, and needs but an open gate to open as the new one
pub record IsReady (old new : Opening) (c : Image) : Type 0 where
  pub alone : OpensAlone old c
  pub other : new.slot ≡ spare_of old
  pub next : new.generation ≡ old.generation + 1
  pub room : used_of new ≤ length c
  pub body : IsBody (length c) (page_at c (FIRST_BODY + new.slot)) new.generation (used_of new) new.root
  pub pages : (k : ℕ) → k < length new.pages → page_at c (FIRST_PAGE + k) ≡ page_at new.pages k

-- the new store, made of the old one and the staged pages
pub record IsNext (old : Opening) (staged : Image) (new : Opening) : Type 0 where
  pub other : new.slot ≡ spare_of old
  pub next : new.generation ≡ old.generation + 1
  pub pages : new.pages ≡ old.pages ++ staged
  pub fits : body_codec.Fits (new.generation, (used_of new, new.root))

-- the commit of these pages and this root, by the numbers that the code keeps
pub record IsCommit (spare used generation : ℕ) (staged : Image) (root : List ℕ) (old new : Opening) : Type 0 where
  pub spare_is : spare ≡ spare_of old
  pub used_is : used ≡ used_of old
  pub generation_is : generation ≡ old.generation
  pub step : IsNext old staged new
  pub root_is : new.root ≡ root
