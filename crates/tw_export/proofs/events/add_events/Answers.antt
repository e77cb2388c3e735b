use Rattle.std.proofs.Common.{ℕ, ◌+◌, drop, true, refl, ◌∙◌, arith, sym, ap}
use Rattle.tw_disk.specs.Found.Found.{Is}
use Rattle.tw_disk.proofs.AnswerLaws.{stopped}
use Rattle.tw_disk.proofs.ReadingLaws.{only_reads_itself}
use Rattle.tw_skiplist.specs.ListFaults.{list_faults}
use Rattle.tw_export.specs.Copied.{copied_step, file_before}
use Rattle.tw_export.specs.Files.{File, with_text}
use Rattle.tw_export.specs.Exporting.{step_on}
use Rattle.tw_export.specs.Told.{so_far_of}
use Rattle.tw_export.proofs.CopyLaws.{copied-bad, copied-is}
use Rattle.tw_export.proofs.events.add_events.Goals as goal

pub returns-in_err-copy_step : goal.returns-in_err-copy_step
returns-in_err-copy_step g c =
    let before = so_far_of c.args.so_far.now in
    let r = c.args.recorded.now in
    record {
      reads = stopped list_faults list_faults g.P.Pages.view g.P.Pages.same g.met.P.Pages.same_on c.args.pages.now
          c.args.pages.now c.copy_step.new.pages (λ _. c.copy_step.new.into)
          _ (λ ps. copied_step ps r before.archive.root before.file.bytes) (λ ps. step_on g.H.Hasher.dig ps before r)
          c.in_err-copy_step.field-0.0 c.in_err-copy_step.field-0.0 c.from_residual.result
          (only_reads_itself g.P.Pages.view g.P.Pages.same _ _ (g.met.P.Pages.same_itself _)) (omega arith) refl
          c.from_residual.ensures.1
          (λ ps told page bad. copied-bad g.H.Hasher.dig ps before r c.requires page bad)
          c.in_err-copy_step.ensures.reads;
    }

pub returns : goal.returns
returns g c =
    let before = so_far_of c.args.so_far.now in
    let r = c.args.recorded.now in
    let reads = c.in_ok-copy_step.ensures.reads in
    let now = c.copy_step.new.into in
    let file =
    ap (λ (n : ℕ). with_text
    (file_before (record { bytes = now; size = before.file.size; is_short = before.file.is_short }) n) (drop n now)
    true) (sym c.len-start.ensures) ∙ sym c.take_text.ensures in
    record {
      reads = record {
        answer = λ ps told. copied-is g.H.Hasher.dig ps before r c.requires c.copy_step.new.into (reads.answer ps told)
            ∙ ap (λ (f : File). Is
            (record {
              file = f;
              archive =
                  record {
                    count = before.archive.count;
                    numbers = before.archive.numbers;
                    root = before.archive.root;
                    since = r.page + 1;
                  };
            })) file;
        own = tt;
        kept = reads.kept;
        faults = record { later = reads.faults.later; rose = λ failed. cc };
      };
    }
