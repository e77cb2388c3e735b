use Rattle.std.proofs.Common.{rules}
use Rattle.tw_base.specs.history.Tree.{entries}
use Rattle.tw_history.proofs.Summaries.{above_by_first, each_of_none, first-summary, some_counted}
use Rattle.tw_history.proofs.soundness.keys.is_after.Goals as goal

pub returns-then-tree-eq0 : goal.returns-then-tree-eq0
returns-then-tree-eq0 c t e is got rising at = ((λ _. each_of_none _ _ t is c.if-tree-eq0.true), (λ _. search rules))

pub returns-else-tree-eq0 : goal.returns-else-tree-eq0
returns-else-tree-eq0 c t e is got rising at =
    above_by_first c.args.history.now (entries t) e _ _ got rising (some_counted _ t is c.if-tree-eq0.false) at
    (λ x y one other. c.comes_before.ensures x y one (rw (first-summary _ t is) other))
