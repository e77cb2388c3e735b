-- What the pages of all steps record, from the head down: each step's page is read once, by the link of level 0 that leads to it.
use Rattle.std.specs.Prelude.{ℕ, suc, zero, List, [], ◌∷◌, ◌++◌, true, Option, Some, None}
use Rattle.tw_base.specs.declared.history.content.Content.{Content}
use Rattle.tw_base.specs.declared.history.content.Content.TheVariants.{Events, Received}
use Rattle.tw_base.specs.declared.history.thread.Thread.{Thread}
use Rattle.tw_base.specs.history.History.{History}
use Rattle.tw_base.specs.history.HistoryCodec.{content_codec}
use Rattle.tw_disk.specs.Found.{Found, ◌>>=◌}
use Rattle.tw_disk.specs.Found.Found.{Is}
use Rattle.tw_disk.specs.Image.{Image}
use Rattle.tw_steppage.specs.declared.fields.StepFields.{StepFields}
use Rattle.tw_steppage.specs.StepPages.{link_at_level}
use Rattle.tw_skiplist.specs.declared.head.Head.{Head}
use Rattle.tw_skiplist.specs.declared.info.EventsAt.{EventsAt}
use Rattle.tw_skiplist.specs.declared.step_records.StepRecord.{StepRecord}
use Rattle.tw_skiplist.specs.Events.{events_from}
use Rattle.tw_skiplist.specs.Keeping.{Place, fields_at, place_of_step}
use Rattle.tw_skiplist.specs.StepPagesRead.{page_of_step}

abbrev pub step_record : (page step : ℕ) → StepFields → StepRecord
step_record page step f = record { step = step; page = page; fields = f }

-- the records from this step, which stands in this page, down to step 1, behind those before them
unfoldable pub records_on : Image → (page step : ℕ) → List StepRecord → Found (List StepRecord)
records_on pages page zero records = Is records
records_on pages page (suc k) records =
    page_of_step pages page (suc k) >>= (λ p. records_on pages (link_at_level p.1 0).page k (records ++ step_record page (suc k) p.0 ∷ []))

-- those of all steps, the last one first
abbrev pub found_records : Image → Head → Found (List StepRecord)
found_records pages head = records_on pages head.page head.step []

-- where the step of a record has its events
abbrev pub events_of_record : StepRecord → EventsAt
events_of_record r = record { step = r.step; page = r.page; count = r.fields.count; stream = r.fields.stream }

-- what the step recorded: the thread that it received, or its events, which are read
abbrev pub content_by : Image → StepRecord → Option Thread → Found Content
content_by pages r (Some t) = Is (Received t)
content_by pages r None = events_from pages (events_of_record r) >>= (λ events. Is (Events events))

unfoldable pub content_of : Image → StepRecord → Found Content
content_of pages r = content_by pages r r.fields.received

-- the same of a step of events, as a history file has it, behind what is before it
abbrev pub copied_content : Image → StepRecord → (before : List ℕ) → Found (List ℕ)
copied_content pages r before = content_of pages r >>= (λ c. Is (before ++ (content_codec true).write c))

-- ---- what a history has

module _ (dig : List ℕ → List ℕ) (h : History) (places : List Place) where
  -- the record of a step that is kept at these places
  abbrev pub record_at : ℕ → StepRecord
  record_at i = step_record (place_of_step places i).page i (fields_at dig h places i)

  -- those of the steps from this one down to step 1
  unfoldable pub records_down : ℕ → List StepRecord
  records_down zero = []
  records_down (suc k) = record_at (suc k) ∷ records_down k
