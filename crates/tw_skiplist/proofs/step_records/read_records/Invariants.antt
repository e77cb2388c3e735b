use Rattle.std.proofs.Common.{◌≡◌, ◌≤◌, ◌+◌, length}
use Rattle.tw_base.specs.declared.kinds.limits.TheConstants.{LAST_STEP}
use Rattle.tw_base.specs.kinds.Lists.{Each}
use Rattle.tw_disk.specs.Answers.{ReadSoFar}
use Rattle.tw_steppage.specs.StepPages.{HasRanges}
use Rattle.tw_skiplist.specs.StepRecords.{found_records, records_on}
use Rattle.tw_skiplist.proofs.step_records.read_records.Given as goal

abbrev pub invariant-loop-step : goal.invariant-loop-step
invariant-loop-step g l = record {
  reads : ReadSoFar g.P.Pages.view g.P.Pages.same l.initial.pages l.pages (λ ps. found_records ps l.head)
      (λ ps. records_on ps l.page l.step l.records);
  count : length l.records + l.step ≡ l.head.step;
  ranges : Each (λ r. HasRanges r.fields) l.records;
  high : l.step ≤ LAST_STEP;
}

abbrev pub decreases-loop-step : goal.decreases-loop-step
decreases-loop-step g l = l.step
