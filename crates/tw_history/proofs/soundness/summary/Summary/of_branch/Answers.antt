use Rattle.std.proofs.Common.{◌+◌, ◌-◌, ◌^◌, ap, ◌∙◌}
use Rattle.std.specs.Prelude.{min}
use Rattle.tw_history.proofs.Summaries.{summary-branch}
use Rattle.tw_history.proofs.soundness.summary.Summary.of_branch.Goals as goal

pub returns : goal.returns
returns c l r e left right same =
    summary-branch c.args.left.now c.args.right.now l r e _ left right
    (c.saturating_add-2.ensures ∙ ap (λ n. min (n + 1) (2 ^ 64 - 1)) c.saturating_add.ensures)
    (λ none. c.end_or.ensures.none none ∙ same) c.end_or.ensures.some
    (λ none. c.end_or-2.ensures.none none ∙ same) c.end_or-2.ensures.some
