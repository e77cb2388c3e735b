use Rattle.std.proofs.Common.{rules}
use Rattle.tw_base.specs.history.Tree.{entries}
use Rattle.tw_history.proofs.Summaries.{below_by_last, each_of_none, last-summary, some_counted}
use Rattle.tw_history.proofs.soundness.keys.is_before.Goals as goal

pub returns-then-tree-eq0 : goal.returns-then-tree-eq0
returns-then-tree-eq0 c t e is got rising at = ((λ _. each_of_none _ _ t is c.if-tree-eq0.true), (λ _. search rules))

pub returns-else-tree-eq0 : goal.returns-else-tree-eq0
returns-else-tree-eq0 c t e is got rising at =
    below_by_last c.args.history.now (entries t) e _ _ got rising (some_counted _ t is c.if-tree-eq0.false) at
    (λ x y one other. c.comes_before.ensures x y (rw (last-summary _ t is) one) other)
