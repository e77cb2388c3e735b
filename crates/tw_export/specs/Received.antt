-- Steps of the proofs that a step which received a thread is told from its new nodes.
use Rattle.std.specs.Prelude.{ℕ, List}
use Rattle.tw_base.specs.declared.history.content.Content.TheVariants.{Received}
use Rattle.tw_base.specs.declared.history.thread.Thread.{Thread}
use Rattle.tw_disk.specs.Found.{Found, when, ◌>>=◌}
use Rattle.tw_disk.specs.Image.{Image}
use Rattle.tw_rbtree.specs.Listing.{listed}
use Rattle.tw_skiplist.specs.declared.step_records.StepRecord.{StepRecord}
use Rattle.tw_export.specs.Exporting.{SoFar, exported_with_step, may_be_told}

-- one step more, which received this thread: from its new nodes
unfoldable pub received_on : (dig : List ℕ → List ℕ) → Image → SoFar → StepRecord → Thread → Found SoFar
received_on dig pages s r t =
    listed dig pages s.archive.since r.fields.archive
    >>= (λ nodes. when (may_be_told s.archive r (Received t) nodes) r.page (exported_with_step s r (Received t) nodes))
