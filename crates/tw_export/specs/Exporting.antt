-- The file of the history that pages tell, whether or not they keep one.
use Rattle.std.specs.Prelude.{ℕ, ◌+◌, ◌&&◌, List, [], ◌∷◌, length, map, nat_le, reverse, Bool, true, Result}
use Rattle.tw_base.specs.declared.history.content.Content.{Content}
use Rattle.tw_base.specs.declared.history.content.Content.TheVariants.{Events, Received}
use Rattle.tw_base.specs.history.History.{Step}
use Rattle.tw_base.specs.history.HistoryCodec.{step_codec}
use Rattle.tw_disk.specs.Found.{Found, when, ◌>>=◌}
use Rattle.tw_disk.specs.Found.Found.{Is}
use Rattle.tw_disk.specs.Image.{Image}
use Rattle.tw_rbtree.specs.declared.new_node.NewNode.{NewNode}
use Rattle.tw_rbtree.specs.Listing.{listed}
use Rattle.tw_skiplist.specs.declared.head.Head.{Head}
use Rattle.tw_skiplist.specs.declared.step_records.StepRecord.{StepRecord}
use Rattle.tw_skiplist.specs.StepRecords.{content_of, found_records}
use Rattle.tw_export.specs.Files.{File, begun, told_file, with_text}
use Rattle.tw_export.specs.NodeNumbers.{Archive, are_known, no_archive, numbered_node, with_nodes}

-- the steps so far: their file, and what is numbered of their archives
pub record SoFar : Type 0 where
  pub file : File
  pub archive : Archive

-- before the first of so many steps
abbrev pub at_start : (name : List ℕ) → (count : ℕ) → SoFar
at_start name count = record { file = begun name count; archive = no_archive }

-- ---- a step, from its record, what it recorded, and its new nodes

-- the archive after it: a step of events leaves the archive as it was, and the archive that its page names isn't looked at
abbrev pub archive_after : Archive → StepRecord → Content → List NewNode → Archive
archive_after a r (Events events) nodes = record a { since = r.page + 1 }
archive_after a r (Received t) nodes = with_nodes a nodes r.fields.archive.page r.page

-- a history file has such a step: its thread is of a step from 1 on, and each older page that its archive names was listed at an earlier
-- step that received a thread
abbrev pub may_be_told : Archive → StepRecord → Content → List NewNode → Bool
may_be_told a r (Events events) nodes = true
may_be_told a r (Received t) nodes = nat_le 1 t.step && are_known a nodes r.fields.archive.page

-- the step as the history has it, with the number of the archive's root after it
abbrev pub step_with : Archive → StepRecord → Content → List NewNode → (root : ℕ) → Step
step_with a r c nodes root = record { content = c; time = r.fields.time; fresh = map (numbered_node a.numbers a.count) nodes; root = root }

abbrev pub exported_with_step : SoFar → StepRecord → Content → List NewNode → SoFar
exported_with_step s r c nodes = record {
  file = with_text s.file (step_codec.write (step_with s.archive r c nodes (archive_after s.archive r c nodes).root)) (nat_le (length nodes) 65535);
  archive = archive_after s.archive r c nodes;
}

-- ---- what is found

module _ (dig : List ℕ → List ℕ) (pages : Image) where
  -- the new nodes of a step: none of events; of a thread those that are listed since the page of the step before
  abbrev pub found_new_nodes : (since : ℕ) → StepRecord → Content → Found (List NewNode)
  found_new_nodes since r (Events events) = Is []
  found_new_nodes since r (Received t) = listed dig pages since r.fields.archive

  -- one step more: what it recorded, and then its new nodes; a step that no history file has is told by its page, which the call reads once
  -- more before, of which nothing is said here
  unfoldable pub step_on : SoFar → StepRecord → Found SoFar
  step_on s r =
      content_of pages r
      >>= (λ c. found_new_nodes s.archive.since r c >>= (λ nodes. when (may_be_told s.archive r c nodes) r.page (exported_with_step s r c nodes)))

  -- these steps more, one after another
  unfoldable pub steps_on : SoFar → List StepRecord → Found SoFar
  steps_on s [] = Is s
  steps_on s (r ∷ rs) = step_on s r >>= (λ next. steps_on next rs)

  -- the step pages are read from the last one down, and then, from the first step on, its event pages or its new tree pages
  unfoldable pub found_file : (name : List ℕ) → Head → Found (Result (List ℕ) ℕ)
  found_file name head = found_records pages head >>= (λ records. steps_on (at_start name head.step) (reverse records) >>= (λ s. Is (told_file s.file)))
