use Rattle.std.proofs.Common.{refl, inl, inr}
use Rattle.std.specs.Prelude.{codes}
use Rattle.tw_text.specs.declared.fault.CommandFault.TheVariants.{Unreadable}
use Rattle.tw_text.specs.declared.refusal.BadInput.TheVariants.{BadLine}
use Rattle.tw_judge.proofs.contradictions.judge_contradiction.Goals as goal

pub returns-in-Err-BadLine : goal.returns-in-Err-BadLine
returns-in-Err-BadLine c =
    inr (record {
      fault = Unreadable (BadLine (codes "first_anchors") c.in-Err-BadLine.line);
      unjudged = inl (refl, (rw c.in-Err-BadLine.field-0-is at c.in-Err-BadLine.ensures.bad));
      status_is = c.in_ok-tell_line-in-Err-BadLine.ensures.status;
      text_is = c.in_ok-tell_line-in-Err-BadLine.ensures.text;
    })

pub returns-in-Err-BadLine-read_anchors : goal.returns-in-Err-BadLine-read_anchors
returns-in-Err-BadLine-read_anchors c =
    inr (record {
      fault = Unreadable (BadLine (codes "second_anchors") c.in-Err-BadLine-read_anchors.line);
      unjudged =
          inr (
            c.in-Ok.ensures.good,
            (refl, (rw c.in-Err-BadLine-read_anchors.field-0-is at c.in-Err-BadLine-read_anchors.ensures.bad)),
          );
      status_is = c.in_ok-tell_line-in-Err-BadLine-read_anchors.ensures.status;
      text_is = c.in_ok-tell_line-in-Err-BadLine-read_anchors.ensures.text;
    })
