use Rattle.std.proofs.Common.{◌∙◌, subst}
use Rattle.tw_disk.specs.Answers.{AnswersAs}
use Rattle.tw_skiplist.specs.ListFaults.{list_faults}
use Rattle.tw_skiplist.specs.ScanSteps.{copied}
use Rattle.tw_skiplist.proofs.Copying.{content-copied}
use Rattle.tw_skiplist.proofs.step_records.copy_events.Goals as goal

pub returns : goal.returns
returns g c =
    let reads = c.copy_from.ensures.reads in
    let r = c.args.recorded.now in
    let before = c.args.into.now in
    record {
      reads = record {
        answer = λ ps told.
            subst (AnswersAs list_faults (λ _. c.copy_from.new.into) c.copy_from.result)
            ((λ i. copied ps (c.events_at.ensures i) (c.in_ok-put_last_bytes.ensures.ok i)) ∙ content-copied ps r before
            c.requires) (reads.answer ps told);
        own = reads.own;
        kept = reads.kept;
        faults = reads.faults;
      };
    }
