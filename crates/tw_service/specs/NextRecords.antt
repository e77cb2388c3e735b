-- The root record after one more step, and what adding a step to a store comes to.
use Rattle.std.specs.Prelude.{◌≡◌, ℕ, Option, Result, Ok, Err}
use Rattle.tw_base.specs.declared.history.root.Root.{Root}
use Rattle.tw_disk.specs.Image.{Image}
use Rattle.tw_disk.specs.Answers.{Next}
use Rattle.tw_disk.specs.Found.{Found}
use Rattle.tw_disk.specs.Found.Found.{Is, Bad}
use Rattle.tw_skiplist.specs.declared.head.Head.{Head}
use Rattle.tw_base.specs.declared.history.refusal.Refusal.{Refusal}
use Rattle.tw_answers.specs.declared.root.RootRecord.{RootRecord}
use Rattle.tw_answers.specs.Refusals.{OfBadPage}
use Rattle.tw_service.specs.Stands.{greater}

-- it has this head, this archive with so many threads, and the greater time
abbrev pub next_record : RootRecord → Head → (archive : Root) → (threads : ℕ) → (time : Option ℕ) → RootRecord
next_record root head archive threads time = record { name = root.name; head = head; archive = archive; threads = threads; time = greater root.time time }

-- that after a step of events, which keeps the archive
abbrev pub event_record : RootRecord → Head → (time : Option ℕ) → RootRecord
event_record root head time = next_record root head root.archive root.threads time

-- the new head is the one that is found, and BadPage tells the page that is
abbrev pub AddsAs : {T : Type 0} → Result T Refusal → (new : Head) → Found (Next Head) → Type 0
AddsAs (Ok done) new found = (pages : Image) × (found ≡ Is (record { pages = pages; value = new }))
AddsAs (Err refusal) new found = OfBadPage refusal (λ page. found ≡ Bad page)
