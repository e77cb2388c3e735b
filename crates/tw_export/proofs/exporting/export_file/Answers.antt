use Rattle.std.proofs.Common.{◌≡◌, reverse, sym, subst}
use Rattle.tw_base.specs.kinds.Lists.{Each}
use Rattle.tw_steppage.specs.StepPages.{HasRanges}
use Rattle.tw_skiplist.specs.declared.step_records.StepRecord.{StepRecord}
use Rattle.tw_export.proofs.StepLaws.{Each-reverse}
use Rattle.tw_export.proofs.exporting.export_file.Goals as goal

pub add_steps-requires : goal.add_steps-requires
add_steps-requires g c =
    let turned : c.as_slice.result.now ≡ reverse c.in_ok-records.records = cc (c.as_slice.ensures, c.reverse.ensures) in
    subst (Each (λ (r : StepRecord). HasRanges r.fields)) (sym turned)
    (Each-reverse (λ (r : StepRecord). HasRanges r.fields) c.in_ok-records.records c.in_ok-records.ensures.ranges)
