use Rattle.std.proofs.Common.{◌≡◌, ℕ, ◌+◌, ◌-◌, ◌<◌, List, [], ◌∷◌, ◌++◌, ap, length, refl, sym, ◌∙◌, subst, arith}
use Rattle.std.proofs.lemmas.List.{length_push}
use Rattle.tw_base.specs.kinds.Lists.{Each}
use Rattle.tw_base.proofs.lemmas.kinds.ListLemmas.{Each-append}
use Rattle.tw_disk.proofs.FoundLaws.{is_on}
use Rattle.tw_disk.proofs.ReadingLaws.{only_reads_on}
use Rattle.tw_steppage.specs.StepPages.{HasRanges, link_at_level}
use Rattle.tw_skiplist.specs.declared.step_records.StepRecord.{StepRecord}
use Rattle.tw_skiplist.specs.StepPagesRead.{page_of_step}
use Rattle.tw_skiplist.specs.StepRecords.{records_on, step_record}
use Rattle.tw_skiplist.proofs.RecordLaws.{records-more}
use Rattle.tw_skiplist.proofs.step_records.read_records.Goals as goal

pub loop-step-preserved : goal.loop-step-preserved
loop-step-preserved g c =
    let inv = c.loop-step.invariant in
    let reads = c.in_ok-fields.ensures.reads in
    let step = c.loop-step.step in
    let page = c.loop-step.page in
    let records = c.loop-step.records in
    let fields = c.in_ok-fields.field-0.fields in
    let links = c.in_ok-fields.field-0.links.items in
    let some : 0 < step = omega (arith, c.loop-step-test.true) in
    let here : StepRecord = step_record page step fields in
    let pushed = c.in_ok-push.ensures.ok in
    let below : link_at_level links 0 ≡ c.link_at-below.result = cc (c.as_slice.ensures.value, c.link_at-below.ensures)
    in
    record {
      reads = record {
        on = λ ps told.
            inv.reads.on ps told
            ∙ records-more ps page records step some
            ∙ is_on (page_of_step ps page step) (λ p. records_on ps (link_at_level p.1 0).page (step - 1)
            (records ++ step_record page step p.0 ∷ [])) (fields, links)
            (reads.answer ps (inv.reads.kept.list_kept ∙ told))
            ∙ (λ j. records_on ps (below j).page (step - 1) (sym pushed j));
        kept = only_reads_on g.P.Pages.view g.P.Pages.same _ _ _ _ _ _ g.met.P.Pages.same_on (λ good. tt) (λ good. refl)
            inv.reads.kept reads.kept;
        later = omega (arith, inv.reads.later, reads.faults.later);
      };
      count =
          ap (λ (n : ℕ). n + (step - 1)) (ap (λ (rs : List StepRecord). length rs) pushed ∙ length_push records here)
          ∙ (let rest : length records + 1 + (step - 1) ≡ c.args.head.now.step = omega (arith, inv.count, some) in
          rest);
      ranges = subst (Each (λ (r : StepRecord). HasRanges r.fields)) (sym pushed)
          (Each-append (λ (r : StepRecord). HasRanges r.fields) records (here ∷ []) inv.ranges
          (c.in_ok-fields.ensures.ranges, tt));
      high = omega (arith, inv.high);
    }
