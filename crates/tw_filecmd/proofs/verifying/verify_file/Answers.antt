use Rattle.std.proofs.Common.{◌∙◌, ap, subst}
use Rattle.tw_outside.specs.Asked.{asked}
use Rattle.tw_outside.specs.Files.{IsThere}
use Rattle.tw_text.specs.declared.fault.CommandFault.TheVariants.{Unreadable}
use Rattle.tw_filecmd.proofs.Judging.{has_anchors, judges_file, judging_since, refuses_line}
use Rattle.tw_filecmd.proofs.verifying.verify_file.Goals as goal

pub returns-in-Ok : goal.returns-in-Ok
returns-in-Ok g c =
    let told = g.I.Inputs.told c.args.inputs.now in
    let before = g.I.Inputs.faults c.args.inputs.now in
    let begun = g.I.Inputs.faults c.read_all.new.inputs in
    let after = g.I.Inputs.faults c.judge.new.inputs in
    judges_file (asked told before after) c.args.proof.now c.args.anchors.now c.as_slice-in-Ok.result.now c.args.strict
    c.judge.result
    (has_anchors told c.args.anchors.now c.as_slice-in-Ok.result.now c.as_slice.result.now c.in_ok-lines.ensures.there
    (λ bytes tells. c.as_slice.ensures.value ∙ c.in_ok-lines.ensures.read bytes tells)
    (c.as_slice-in-Ok.ensures ∙ c.in-Ok.ensures.anchors) c.in-Ok.ensures.good)
    (judging_since told (g.I.Inputs.told c.read_all.new.inputs) before begun after c.args.proof.now
    c.as_slice-in-Ok.result.now c.args.strict
    c.judge.result c.in_ok-lines.ensures.kept c.in_ok-lines.ensures.later c.judge.ensures)

pub returns-in-Err-BadLine : goal.returns-in-Err-BadLine
returns-in-Err-BadLine g c =
    let told = g.I.Inputs.told c.args.inputs.now in
    refuses_line (asked told (g.I.Inputs.faults c.args.inputs.now) (g.I.Inputs.faults c.feed_file.new.inputs))
    c.args.proof.now c.args.anchors.now c.args.strict
    c.in-Err-BadLine.line
    c.as_slice.result.now (Unreadable c.in_ok-bad_line-in-Err-BadLine.field-0)
    (subst (λ t. IsThere t c.args.proof.now) c.in_ok-lines.ensures.kept c.in_ok-feed_file-in-Err-BadLine.ensures.there)
    c.in_ok-lines.ensures.there (λ bytes tells. c.as_slice.ensures.value ∙ c.in_ok-lines.ensures.read bytes tells)
    (rw c.in-Err-BadLine.field-0-is at c.in-Err-BadLine.ensures.bad)
    (ap Unreadable c.in_ok-bad_line-in-Err-BadLine.ensures)
