-- What the fields and links of a step's page make of a path and of an opening.
use Rattle.std.specs.Prelude.{ℕ, suc, zero, List, [], ◌∷◌, ◌++◌, length, remove}
use Rattle.tw_base.specs.kinds.Texts.{link_text, step_datum_text}
use Rattle.tw_skipproof.specs.declared.opening.Opening.{Opening}
use Rattle.tw_skipproof.specs.declared.path.Link.{Link}
use Rattle.tw_steppage.specs.declared.link.StepRef.{StepRef}
use Rattle.tw_steppage.specs.declared.fields.StepFields.{StepFields}
use Rattle.tw_skiplist.specs.declared.info.StepInfo.{StepInfo}
use Rattle.tw_steppage.specs.StepPages.{link_at_level}

module _ (dig : List ℕ → List ℕ) where
  abbrev pub page_datum : StepFields → List ℕ
  page_datum f = dig (step_datum_text f.event_root f.archive.label f.count f.time)

  -- the labels of the links at the levels below this count
  unfoldable pub page_labels : (step : ℕ) (datum : List ℕ) → List StepRef → (count : ℕ) → List (List ℕ)
  page_labels step datum links zero = []
  page_labels step datum links (suc level) = page_labels step datum links level ++ dig (link_text step level datum (link_at_level links level).auth) ∷ []

  -- the labels of all links but the one of this level
  abbrev pub other_labels : (step : ℕ) (datum : List ℕ) → List StepRef → (level : ℕ) → List (List ℕ)
  other_labels step datum links level = remove (page_labels step datum links (length links)) level

  -- the record of the link of this level in a path
  abbrev pub link_record : (step : ℕ) → StepFields → List StepRef → (level : ℕ) → Link
  link_record step f links level = record { datum = page_datum f; others = other_labels step (page_datum f) links level }

  abbrev pub opening_record : (step : ℕ) → StepFields → List StepRef → Opening
  opening_record step f links = record {
    event_root = f.event_root;
    archive_root = f.archive.label;
    count = f.count;
    time = f.time;
    prev = (link_at_level links 0).auth;
    others = other_labels step (page_datum f) links 0;
  }

  abbrev pub info_record : (page step : ℕ) → StepFields → List StepRef → StepInfo
  info_record page step f links = record {
    step = step;
    page = page;
    before = link_at_level links 0;
    event_root = f.event_root;
    count = f.count;
    time = f.time;
    archive = f.archive;
    received = f.received;
    auth = f.auth;
    opening = opening_record step f links;
    stream = f.stream;
  }
