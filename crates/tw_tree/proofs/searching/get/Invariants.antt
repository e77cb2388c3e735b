use Rattle.std.proofs.Common.{◌≡◌}
use Rattle.tw_base.specs.history.Asking.{entry_with}
use Rattle.tw_base.specs.history.Tree.{IsRising, entries}
use Rattle.tw_tree.specs.TreeMeaning.{meant_tree}
use Rattle.tw_tree.proofs.searching.get.Given as goal

abbrev pub invariant-loop-here : goal.invariant-loop-here
invariant-loop-here l = record {
  rising : IsRising (entries (meant_tree l.here));
  same : entry_with (entries (meant_tree l.here)) l.key ≡ entry_with (entries (meant_tree l.tree)) l.key;
}
