-- A step that received a thread is told from its new nodes.
use Rattle.std.proofs.Common.{◌≡◌, ℕ, List, refl, sym, subst}
use Rattle.std.specs.Prelude.{Option, Some}
use Rattle.tw_base.specs.declared.history.thread.Thread.{Thread}
use Rattle.tw_disk.specs.Found.{Found, when, ◌>>=◌}
use Rattle.tw_disk.specs.Image.{Image}
use Rattle.tw_skiplist.specs.declared.step_records.StepRecord.{StepRecord}
use Rattle.tw_skiplist.specs.StepRecords.{content_by, content_of}
use Rattle.tw_export.specs.Exporting.{SoFar, exported_with_step, found_new_nodes, may_be_told, step_on}
use Rattle.tw_export.specs.Received.{received_on}

module _ (dig : List ℕ → List ℕ) (pages : Image) (s : SoFar) (r : StepRecord) where
  abbrev by_content : Option Thread → Found SoFar
  by_content received =
      content_by pages r received
      >>= (λ c. found_new_nodes dig pages s.archive.since r c >>= (λ nodes. when (may_be_told s.archive r c nodes)
      r.page (exported_with_step s r c nodes)))

  pub step_received : (t : Thread) → r.fields.received ≡ Some t → step_on dig pages s r ≡ received_on dig pages s r t
  unfolding step_on content_of received_on
  step_received t is = subst (λ (o : Option Thread). by_content o ≡ by_content (Some t)) (sym is) refl
