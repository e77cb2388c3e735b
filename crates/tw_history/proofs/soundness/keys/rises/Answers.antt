use Rattle.tw_base.specs.history.Tree.{entries}
use Rattle.tw_history.proofs.Summaries.{IsRising-above, IsRising-below, IsRising-between, is_false}
use Rattle.tw_history.proofs.soundness.keys.rises.Goals as goal

pub returns-then-is_before : goal.returns-then-is_before
returns-then-is_before c l r e left right got_left got_right rises_left rises_right at =
    let below = c.is_before.ensures l e left got_left rises_left at in
    let above = c.is_after.ensures r e right got_right rises_right at in (
      (λ yes. IsRising-between (entries l) (entries r) e rises_left rises_right (below.0 c.if-is_before.true)
          (above.0 yes)),
      (λ rising. above.1 (IsRising-above (entries l) (entries r) e rising)),
    )

pub returns-else-is_before : goal.returns-else-is_before
returns-else-is_before c l r e left right got_left got_right rises_left rises_right at =
    let below = c.is_before.ensures l e left got_left rises_left at in (
      (λ yes. absurd (is_false _ c.if-is_before.false yes)),
      (λ rising. below.1 (IsRising-below (entries l) (entries r) e rising)),
    )
