-- Which history an image stands for, and why an image is opened as none.
use Rattle.std.specs.Prelude.{◌≡◌, ◌⊎◌, ℕ, List, [], ◌∷◌, length, max, Option, Some, None}
use Rattle.tw_base.specs.history.History.{History, received, times}
use Rattle.tw_base.specs.history.Sound.{IsSound}
use Rattle.tw_disk.specs.Image.{Image}
use Rattle.tw_pages.specs.Slots.{IsBlank}
use Rattle.tw_pages.specs.declared.open.StoreFault.{StoreFault}
use Rattle.tw_pages.specs.Records.{IsWritten, Served, written_record}
use Rattle.tw_pages.specs.Records.{IsNotOpenedFor as IsNotOpenedAs, IsServed as IsServedAs}
use Rattle.tw_pages.specs.States.{StandsForState}
use Rattle.tw_archive.specs.Archives.{KeepsTrees}
use Rattle.tw_skiplist.specs.Keeping.{Keeps, Place, archive_at, place_of_step}
use Rattle.tw_answers.specs.declared.root.RootRecord.{RootRecord}
use Rattle.tw_answers.specs.Roots.{root_kind}

-- the history of this name that has no step
abbrev pub no_history : (name : List ℕ) → History
no_history name = record { name = name; steps = [] }

-- ---- images that open as a service

-- the image opens as a store with this root record, and P holds of the store's pages
abbrev pub OpensWith : (image : Image) (root : RootRecord) (P : Image → Type 0) → Type 0
OpensWith image root P = (pages : Image) × IsWritten root_kind (written_record root pages) image × P pages

-- why an image isn't opened: it opens as no store, or its root record is none of a service
abbrev pub IsNotOpenedFor : Image → StoreFault → Type 0
IsNotOpenedFor image fault = IsNotOpenedAs root_kind image fault

-- what an image is served as: the service of a root record and pages, or, for a reason, none
abbrev pub IsServed : Image → Served RootRecord → Type 0
IsServed image served = IsServedAs root_kind image served

-- ---- images that stand for a history

-- the greater one of two times, of which there may be none
abbrev pub greater : (clock time : Option ℕ) → Option ℕ
greater clock None = clock
greater None (Some given) = Some given
greater (Some last) (Some given) = Some (max last given)

-- the greatest of these times, and none of none
abbrev pub greatest : List ℕ → Option ℕ
greatest [] = None
greatest (t ∷ ts) = greater (greatest ts) (Some t)

-- the greatest time of the history's steps, where one has a time
abbrev pub greatest_time : History → Option ℕ
greatest_time h = greatest (times h (length h.steps))

-- the page of each step; 0 is that of step 0
abbrev pub step_pages : List Place → ℕ → ℕ
step_pages places step = (place_of_step places step).page

module _ (dig : List ℕ → List ℕ) where
  -- the pages keep the history whole: its steps under the head, and the archive's tree of each of them; and the root record tells the
  -- archive after the last step, how many threads the history received, and its greatest time
  pub record KeepsWhole (pages : Image) (h : History) (r : RootRecord) : Type 0 where
    pub steps : Keeps dig pages h r.head
    pub trees : KeepsTrees dig pages h (step_pages steps.places) (archive_at dig h steps.places)
    pub archive : r.archive ≡ archive_at dig h steps.places (length h.steps)
    pub threads : r.threads ≡ length (received h (length h.steps))
    pub time : r.time ≡ greatest_time h

  -- the same of a sound history that has the record's name
  pub record KeepsHistory (pages : Image) (r : RootRecord) (h : History) : Type 0 where
    pub sound : IsSound h
    pub named : h.name ≡ r.name
    pub whole : KeepsWhole pages h r

  -- the image opens as a store that keeps this history of this name
  pub record StandsFor (image : Image) (name : List ℕ) (h : History) : Type 0 where
    pub named : h.name ≡ name
    pub stands : StandsForState root_kind KeepsHistory h image

  -- the same, of the history's own name
  abbrev pub IsImageOfHistory : History → Image → Type 0
  IsImageOfHistory h image = StandsFor image h.name h

  -- for the history, or for the next one
  abbrev pub StandsForOneOf : (name : List ℕ) → (h next : History) → Image → Type 0
  StandsForOneOf name h next image = StandsFor image name h ⊎ StandsFor image name next

  -- nothing was made, or the history of this name that has no step
  abbrev pub IsBlankOrNew : (name : List ℕ) → Image → Type 0
  IsBlankOrNew name image = IsBlank image ⊎ StandsFor image name (no_history name)
