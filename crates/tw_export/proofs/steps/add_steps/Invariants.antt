use Rattle.std.proofs.Common.{drop}
use Rattle.tw_disk.specs.Answers.{ReadSoFar}
use Rattle.tw_export.specs.Exporting.{steps_on}
use Rattle.tw_export.specs.Told.{so_far_of}
use Rattle.tw_export.proofs.steps.add_steps.Given as goal

abbrev pub invariant-loop-recorded : goal.invariant-loop-recorded
invariant-loop-recorded g l = ReadSoFar g.P.Pages.view g.P.Pages.same l.initial.pages l.pages
    (λ ps. steps_on g.H.Hasher.dig ps (so_far_of l.initial.so_far) l.records)
    (λ ps. steps_on g.H.Hasher.dig ps (so_far_of l.so_far) (drop l.recorded-index l.records))
