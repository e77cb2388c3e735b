use Rattle.std.proofs.Common.{◌≡◌, ◌+◌, drop, refl, ◌∙◌, arith, Some}
use Rattle.tw_disk.specs.Found.{◌>>=◌}
use Rattle.tw_disk.specs.Image.{Image}
use Rattle.tw_disk.proofs.AnswerLaws.{stopped}
use Rattle.tw_disk.proofs.FoundLaws.{bad_ends, is_on}
use Rattle.tw_disk.proofs.ReadingLaws.{only_reads_on}
use Rattle.tw_skiplist.specs.ListFaults.{list_faults}
use Rattle.tw_export.specs.Exporting.{step_on, steps_on}
use Rattle.tw_export.specs.Told.{so_far_of}
use Rattle.tw_export.proofs.StepLaws.{steps-more}
use Rattle.tw_export.proofs.steps.add_steps.Given as given
use Rattle.tw_export.proofs.steps.add_steps.Goals as goal
use Rattle.tw_export.proofs.steps.add_steps.Goals.{After-add_step}

-- what is found of all is what is found of this step, and then of those behind it
all-are : (g : given.Over) (c : After-add_step g) (ps : Image) → (g.P.Pages.view c.args.pages.now).list ≡ Some ps
    → steps_on g.H.Hasher.dig ps (so_far_of c.args.so_far.now) c.args.records.now
    ≡ (step_on g.H.Hasher.dig ps (so_far_of c.loop-recorded.so_far) c.recorded-item.result
    >>= (λ next. steps_on g.H.Hasher.dig ps next (drop (c.loop-recorded.recorded-index + 1) c.args.records.now)))
all-are g c ps told =
    c.loop-recorded.invariant.on ps told ∙ steps-more g.H.Hasher.dig ps (so_far_of c.loop-recorded.so_far)
    c.args.records.now c.loop-recorded.recorded-index c.recorded-item.result c.loop-recorded-test.true c.recorded-item.is

pub returns-in_err-add_step : goal.returns-in_err-add_step
returns-in_err-add_step g c =
    let inv = c.loop-recorded.invariant in
    let dig = g.H.Hasher.dig in
    let found = λ (ps : Image). step_on dig ps (so_far_of c.loop-recorded.so_far) c.recorded-item.result in
    record {
      reads = stopped list_faults list_faults g.P.Pages.view g.P.Pages.same g.met.P.Pages.same_on c.args.pages.now
          c.loop-recorded.pages c.add_step.new.pages (λ _. so_far_of c.add_step.new.so_far)
          (λ _. so_far_of c.add_step.new.so_far) found
          (λ ps. steps_on dig ps (so_far_of c.args.so_far.now) c.args.records.now) c.in_err-add_step.field-0.0
          c.in_err-add_step.field-0.0 c.from_residual.result
          inv.kept inv.later refl c.from_residual.ensures.1
          (λ ps told page bad.
          all-are g (goal.at.returns-in_err-add_step g c).After-add_step ps told
          ∙ bad_ends (found ps) (λ next. steps_on dig ps next (drop (c.loop-recorded.recorded-index + 1)
          c.args.records.now)) page bad)
          c.in_err-add_step.ensures.reads;
    }

pub loop-recorded-preserved : goal.loop-recorded-preserved
loop-recorded-preserved g c =
    let inv = c.loop-recorded.invariant in
    let reads = c.in_ok-add_step.ensures.reads in
    let dig = g.H.Hasher.dig in
    record {
      on = λ ps told.
          all-are g (goal.at.loop-recorded-preserved g c).After-add_step ps told
          ∙ is_on (step_on dig ps (so_far_of c.loop-recorded.so_far) c.recorded-item.result)
          (λ next. steps_on dig ps next (drop (c.loop-recorded.recorded-index + 1) c.args.records.now))
          (so_far_of c.add_step.new.so_far) (reads.answer ps (inv.kept.list_kept ∙ told));
      kept = only_reads_on g.P.Pages.view g.P.Pages.same _ _ _ _ _ _ g.met.P.Pages.same_on (λ good. tt) (λ good. refl)
          inv.kept reads.kept;
      later = omega (arith, inv.later, reads.faults.later);
    }
