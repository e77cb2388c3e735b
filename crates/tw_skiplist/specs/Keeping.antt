-- Pages that keep a history's steps. Of the archive they keep the label and the page of its root after each step.
use Rattle.std.specs.Prelude.{◌≡◌, ℕ, suc, zero, ◌+◌, ◌-◌, ◌*◌, ◌^◌, ◌<◌, ◌≤◌, List, [], ◌∷◌, ◌++◌, length, slice_index_or, Some, IfSome}
use Rattle.tw_disk.specs.declared.limits.TheConstants.{FIRST_PAGE, NUMBER_LIMIT}
use Rattle.tw_disk.specs.Image.{Image, page_at}
use Rattle.tw_base.specs.declared.kinds.limits.TheConstants.{LAST_STEP}
use Rattle.tw_base.specs.declared.history.root.Root.{Root}
use Rattle.tw_base.specs.events.EventTree.{event_root}
use Rattle.tw_base.specs.history.History.{History, Step, events_at, events_of, step_at, thread_of, time_at}
use Rattle.tw_base.specs.history.Limits.{FitTogether, IsTimeWithinLimits, IsWithinLimits}
use Rattle.tw_base.specs.kinds.Levels.{top_level}
use Rattle.tw_base.specs.history.Tree.{tree}
use Rattle.tw_base.specs.history.Auth.{auth, tree_label}
use Rattle.tw_skiplist.specs.declared.head.Head.{Head}
use Rattle.tw_steppage.specs.declared.link.StepRef.{StepRef}
use Rattle.tw_steppage.specs.declared.fields.StepFields.{StepFields}
use Rattle.tw_steppage.specs.declared.limits.TheConstants.{MOST_PIECE_BYTES}
use Rattle.tw_steppage.specs.StepBytes.{step_page_bytes, event_page_bytes, stream, piece}

-- what a step records is within the limits; of its nodes and its root nothing is said
pub record MayBeKept (s : Step) : Type 0 where
  pub content : IsWithinLimits s.content
  pub together : FitTogether (events_of (Some s))
  pub time : IsTimeWithinLimits s.time

-- ---- where steps are kept

-- the page of a step, its first event page, which is 0 where the step has none, and the page of the archive's root after it, which
-- is 0 where the archive is empty
pub record Place : Type 0 where
  pub page : ℕ
  pub first : ℕ
  pub archive : ℕ

abbrev pub no_place : Place
no_place = record { page = 0; first = 0; archive = 0 }

-- the place of step i; step 0 has none
abbrev pub place_of_step : List Place → ℕ → Place
place_of_step places i = slice_index_or places i no_place

-- the event pages from this one on, all below the step page, keep the stream; a stream of no bytes has no page
pub record KeepsStream (pages : Image) (step first page : ℕ) (bytes : List ℕ) : Type 0 where
  pub none : length bytes ≡ 0 → first ≡ 0
  pub low : 0 < length bytes → FIRST_PAGE ≤ first
  pub below : (number : ℕ) → MOST_PIECE_BYTES * number < length bytes → first + number < page
  pub pieces : (number : ℕ) → MOST_PIECE_BYTES * number < length bytes → page_at pages (first + number - FIRST_PAGE) ≡ event_page_bytes step number (piece bytes number)

module _ (dig : List ℕ → List ℕ) where
  module _ (h : History) (places : List Place) where
    -- the archive after step i: the page of its root, and the label of its tree
    abbrev pub archive_at : ℕ → Root
    archive_at i = record { page = (place_of_step places i).archive; label = tree_label dig (tree h i) }

    abbrev pub link_to : ℕ → StepRef
    link_to i = record { page = (place_of_step places i).page; auth = auth dig h i }

    -- the links of step i at the levels below this count; the link at a level leads to step i - 2 ^ level
    unfoldable pub links_to : (i count : ℕ) → List StepRef
    links_to i zero = []
    links_to i (suc level) = links_to i level ++ link_to (i - 2 ^ level) ∷ []

    -- all links of step i
    abbrev pub links_at : ℕ → List StepRef
    links_at i = links_to i (suc (top_level i))

    -- the fields of step i's page
    abbrev pub fields_at : ℕ → StepFields
    fields_at i = record {
      count = length (events_at h i);
      stream = record { page = (place_of_step places i).first; size = length (stream (events_at h i)) };
      event_root = event_root dig (events_at h i);
      archive = archive_at i;
      received = thread_of (step_at h i);
      auth = auth dig h i;
      time = time_at h i;
    }

  -- the pages keep step k + 1 of the history at its place above that of step k, and the page of its archive lies below its own
  pub record KeepsStep (pages : Image) (h : History) (places : List Place) (k : ℕ) : Type 0 where
    pub may : IfSome (step_at h (suc k)) MayBeKept
    pub low : FIRST_PAGE ≤ (place_of_step places (suc k)).page
    pub rising : (place_of_step places k).page < (place_of_step places (suc k)).page
    pub below : (place_of_step places (suc k)).page < FIRST_PAGE + length pages
    pub small : (place_of_step places (suc k)).page < NUMBER_LIMIT
    pub archive : (place_of_step places (suc k)).archive < (place_of_step places (suc k)).page
    pub bytes : page_at pages ((place_of_step places (suc k)).page - FIRST_PAGE) ≡ step_page_bytes (suc k) (fields_at h places (suc k)) (links_at h places (suc k))
    pub stream : KeepsStream pages (suc k) (place_of_step places (suc k)).first (place_of_step places (suc k)).page (stream (events_at h (suc k)))

  -- the pages keep each step of the history at these places
  pub record KeepsSteps (pages : Image) (h : History) (places : List Place) : Type 0 where
    pub count : length places ≡ suc (length h.steps)
    pub nowhere : place_of_step places 0 ≡ no_place
    pub short : length h.steps ≤ LAST_STEP
    pub steps : (k : ℕ) → k < length h.steps → KeepsStep pages h places k

  -- the pages, of which the first has number 4, keep the steps of the history whose head this is
  pub record Keeps (pages : Image) (h : History) (head : Head) : Type 0 where
    pub places : List Place
    pub keeps : KeepsSteps pages h places
    pub step : head.step ≡ length h.steps
    pub auth : head.auth ≡ auth dig h (length h.steps)
    pub page : head.page ≡ (place_of_step places (length h.steps)).page

-- ---- two histories in the same pages

-- the histories have as many steps, which record the same at the same times, and their pages and those of their archives are the
-- same; so they differ by their names, and by new nodes and roots, alone
pub record AreAlike (h g : History) (places others : List Place) : Type 0 where
  pub count : length h.steps ≡ length g.steps
  pub events : (i : ℕ) → i ≤ length h.steps → events_at h i ≡ events_at g i
  pub threads : (i : ℕ) → i ≤ length h.steps → thread_of (step_at h i) ≡ thread_of (step_at g i)
  pub times : (i : ℕ) → i ≤ length h.steps → time_at h i ≡ time_at g i
  pub pages : (i : ℕ) → i ≤ length h.steps → (place_of_step places i).page ≡ (place_of_step others i).page
  pub archives : (i : ℕ) → i ≤ length h.steps → (place_of_step places i).archive ≡ (place_of_step others i).archive

-- ---- a step more

-- behind the places of so many steps there is one whose archive has this page
pub record GoOn (places more : List Place) (steps archive : ℕ) : Type 0 where
  pub before : (i : ℕ) → i ≤ steps → place_of_step more i ≡ place_of_step places i
  pub new : (place_of_step more (suc steps)).archive ≡ archive
