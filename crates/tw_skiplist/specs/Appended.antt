-- What one more step puts behind the pages.
use Rattle.std.specs.Prelude.{ℕ, ◌+◌, ◌==◌, List, [], ◌∷◌, ◌++◌, length, Option, Some, None, if◌then◌else◌}
use Rattle.tw_disk.specs.declared.limits.TheConstants.{FIRST_PAGE}
use Rattle.tw_disk.specs.Answers.{Next}
use Rattle.tw_disk.specs.Found.{Found, ◌>>=◌}
use Rattle.tw_disk.specs.Found.Found.{Is}
use Rattle.tw_disk.specs.Image.{Image}
use Rattle.tw_base.specs.declared.history.content.Content.{Content}
use Rattle.tw_base.specs.declared.history.root.Root.{Root}
use Rattle.tw_base.specs.declared.history.thread.Thread.{Thread}
use Rattle.tw_base.specs.events.EventTree.{event_root}
use Rattle.tw_base.specs.history.History.{Step, events_of, thread_of}
use Rattle.tw_base.specs.kinds.Texts.{authenticator_text, step_datum_text}
use Rattle.tw_skiplist.specs.declared.adding.NewStep.{NewStep}
use Rattle.tw_skiplist.specs.declared.head.Head.{Head}
use Rattle.tw_steppage.specs.declared.link.StepRef.{StepRef}
use Rattle.tw_steppage.specs.declared.fields.StepFields.{StepFields}
use Rattle.tw_skiplist.specs.Events.{piece_count}
use Rattle.tw_skiplist.specs.Records.{page_labels}
use Rattle.tw_steppage.specs.StepBytes.{event_pages, step_page_bytes, stream}
use Rattle.tw_skiplist.specs.Walks.{next_links}

-- ---- what is recorded

-- a step of this content and time, that adds no node and has no root
abbrev pub bare_step : Content → (time : Option ℕ) → Step
bare_step content time = record { content = content; time = time; fresh = []; root = 0 }

-- the events of a content, of which a received thread has none, and the thread, of which events have none
abbrev pub appended_events : Content → List (List ℕ)
appended_events content = events_of (Some (bare_step content None))

abbrev pub appended_thread : Content → Option Thread
appended_thread content = thread_of (Some (bare_step content None))

-- what a step of this content and time, with this archive after it, has for its page
abbrev pub new_step : (dig : List ℕ → List ℕ) → Content → (archive : Root) → (time : Option ℕ) → NewStep
new_step dig content archive time = record {
  stream = stream (appended_events content);
  count = length (appended_events content);
  event_root = event_root dig (appended_events content);
  archive = archive;
  received = appended_thread content;
  time = time;
}

-- ---- the pages of it

-- pages with a step behind them: its event pages, which have this stream, and then its own page
abbrev pub image_with_step : Image → (step : ℕ) → (bytes : List ℕ) → StepFields → List StepRef → Image
image_with_step pages step bytes f links = (pages ++ event_pages step bytes (piece_count (length bytes))) ++ step_page_bytes step f links ∷ []

-- where the stream of a step begins that is put behind the pages; one of no bytes has no page
abbrev pub first_page : Image → (size : ℕ) → ℕ
first_page pages size = if size == 0 then 0 else FIRST_PAGE + length pages

-- so many event pages of a step with this stream behind the pages
abbrev pub with_pieces : Image → (step : ℕ) → (bytes : List ℕ) → Next ℕ
with_pieces pages step bytes = record { pages = pages ++ event_pages step bytes (piece_count (length bytes)); value = piece_count (length bytes) }

-- the fields of its page behind the pages, with this authenticator
abbrev pub new_fields : Image → NewStep → (auth : List ℕ) → StepFields
new_fields pages new auth = record {
  count = new.count;
  stream = record { page = first_page pages (length new.stream); size = length new.stream };
  event_root = new.event_root;
  archive = new.archive;
  received = new.received;
  auth = auth;
  time = new.time;
}

-- A step behind the pages, with these links, and its head: its event pages and then its own page. Its authenticator is that of its
-- links' labels.
abbrev pub next_at : (dig : List ℕ → List ℕ) → Image → (step : ℕ) → NewStep → List StepRef → (labels : List (List ℕ)) → Next Head
next_at dig pages step new links labels = record {
  pages = image_with_step pages step new.stream (new_fields pages new (dig (authenticator_text step labels))) links;
  value = record { step = step; auth = dig (authenticator_text step labels); page = FIRST_PAGE + length pages + piece_count (length new.stream) };
}

module _ (dig : List ℕ → List ℕ) (pages : Image) (head : Head) where
  module _ (new : NewStep) where
    -- the labels of these links of the step after the head's
    abbrev pub new_labels : List StepRef → List (List ℕ)
    new_labels links = page_labels dig (head.step + 1) (dig (step_datum_text new.event_root new.archive.label new.count new.time)) links (length links)

    -- that step
    abbrev pub next_of : List StepRef → Next Head
    next_of links = next_at dig pages (head.step + 1) new links (new_labels links)

    -- the step after the head's: its links are read, and it is put behind the pages
    unfoldable pub put_behind : Found (Next Head)
    put_behind = next_links pages head >>= (λ links. Is (next_of links))

  -- the same of a step of this content and time, with this archive after it
  abbrev pub appended : Content → (archive : Root) → (time : Option ℕ) → Found (Next Head)
  appended content archive time = put_behind (new_step dig content archive time)
