use Rattle.std.proofs.Common.{refl, inr}
use Rattle.tw_text.specs.declared.fault.CommandFault.TheVariants.{Unreadable}
use Rattle.tw_text.specs.declared.refusal.BadInput.TheVariants.{BadLine}
use Rattle.tw_judge.proofs.maps.judge_files.Goals as goal

pub returns-in_ok-tell_line-in-Err-BadLine : goal.returns-in_ok-tell_line-in-Err-BadLine
returns-in_ok-tell_line-in-Err-BadLine c low_bytes low_name high_bytes high_name low_spelled high_spelled =
    inr (record {
      fault = Unreadable (BadLine c.args.anchors_file.now c.in-Err-BadLine.line);
      unjudged = inr (inr (
        (
          c.args.low.now,
          c.args.high.now,
          record { low_spelled = low_spelled; high_spelled = high_spelled },
        ),
        (refl, (rw c.in-Err-BadLine.field-0-is at c.in-Err-BadLine.ensures.bad)),
      ));
      status_is = c.in_ok-tell_line-in-Err-BadLine.ensures.status;
      text_is = c.in_ok-tell_line-in-Err-BadLine.ensures.text;
    })
