use Rattle.std.proofs.Common.{inr}
use Rattle.tw_judge.proofs.BadLines.{bad_line_told}
use Rattle.tw_judge.proofs.told.told_of.Goals as goal

pub returns-in_ok-tell_line-in-Err-BadLine : goal.returns-in_ok-tell_line-in-Err-BadLine
returns-in_ok-tell_line-in-Err-BadLine c =
    let told = c.in_ok-tell_line-in-Err-BadLine.ensures in
    inr (bad_line_told c.args.anchors.now (rw c.in-Err-BadLine.field-0-is at c.in-Err-BadLine.ensures.bad) told.status
    told.text)
