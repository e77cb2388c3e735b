-- In which order the pages of steps are read: down the greedy path, and for the links of one more step.
use Rattle.std.specs.Prelude.{ℕ, suc, zero, ◌+◌, ◌-◌, ◌^◌, List, [], ◌∷◌, ◌++◌}
use Rattle.tw_disk.specs.Image.{Image}
use Rattle.tw_base.specs.kinds.Levels.{top_level}
use Rattle.tw_skipproof.specs.declared.path.Link.{Link}
use Rattle.tw_skipproof.specs.Paths.{greedy_steps, hop_level}
use Rattle.tw_skiplist.specs.declared.head.Head.{Head}
use Rattle.tw_steppage.specs.declared.link.StepRef.{StepRef}
use Rattle.tw_skiplist.specs.declared.collecting.Collected.{Collected}
use Rattle.tw_skiplist.specs.declared.collecting.Hop.{Hop}
use Rattle.tw_skiplist.specs.declared.info.StepInfo.{StepInfo}
use Rattle.tw_disk.specs.Found.{Found, ◌>>=◌}
use Rattle.tw_disk.specs.Found.Found.{Is}
use Rattle.tw_skiplist.specs.Records.{info_record, link_record}
use Rattle.tw_steppage.specs.StepPages.{link_at_level}
use Rattle.tw_skiplist.specs.StepPagesRead.{page_of_step}

-- the link that a head is
abbrev pub head_ref : Head → StepRef
head_ref head = record { page = head.page; auth = head.auth }

-- ---- down the greedy path

-- the link of this level that the page of a step has
abbrev pub link_in : Image → (page step level : ℕ) → Found StepRef
link_in pages page step level = page_of_step pages page step >>= (λ p. Is (link_at_level p.1 level))

-- From the link to the first of these steps of a greedy path, which goes down to a lower step: the link that the last one's
-- page has to that step. The page of each is read, and its link of the path's level is followed.
unfoldable pub walk_along : Image → (to : ℕ) → List ℕ → StepRef → Found StepRef
walk_along pages to [] link = Is link
walk_along pages to (at ∷ steps) link = link_in pages link.page at (hop_level at to) >>= walk_along pages to steps

abbrev pub walk : Image → StepRef → (from to : ℕ) → Found StepRef
walk pages link from to = walk_along pages to (greedy_steps from to) link

module _ (dig : List ℕ → List ℕ) (pages : Image) where
  -- the same with the record of the link
  abbrev pub hop_in : (page step level : ℕ) → Found Hop
  hop_in page step level = page_of_step pages page step >>= (λ p. Is (record { link = link_record dig step p.0 p.1 level; next = link_at_level p.1 level }))

  -- the same walk, with the record of each link that it follows behind those before it
  unfoldable pub collect_along : (to : ℕ) → List ℕ → List Link → StepRef → Found Collected
  collect_along to [] links link = Is (record { links = links; last = link })
  collect_along to (at ∷ steps) links link = hop_in link.page at (hop_level at to) >>= (λ hop. collect_along to steps (links ++ hop.link ∷ []) hop.next)

  abbrev pub collected : StepRef → (from to : ℕ) → Found Collected
  collected link from to = collect_along to (greedy_steps from to) [] link

  -- what the page of a step tells of it
  unfoldable pub info_in : (page step : ℕ) → Found StepInfo
  info_in page step = page_of_step pages page step >>= (λ p. Is (info_record dig page step p.0 p.1))

-- ---- the links of one more step

-- From the link of a level of the step, behind those of the levels below it, its links up to so many levels more: the next one is
-- the link of the same level that the page of the step has to which this one leads.
unfoldable pub links_on : Image → (step more level : ℕ) → List StepRef → StepRef → Found (List StepRef)
links_on pages step zero level links link = Is (links ++ link ∷ [])
links_on pages step (suc more) level links link = link_in pages link.page (step - 2 ^ level) level >>= links_on pages step more (suc level) (links ++ link ∷ [])

-- all links of a step, of which this is the first one
abbrev pub all_links : Image → (step : ℕ) → StepRef → Found (List StepRef)
all_links pages step first = links_on pages step (top_level step) 0 [] first

-- those of the step after the head's
abbrev pub next_links : Image → Head → Found (List StepRef)
next_links pages head = all_links pages (head.step + 1) (head_ref head)
