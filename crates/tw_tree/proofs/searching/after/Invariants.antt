use Rattle.std.proofs.Common.{◌≡◌}
use Rattle.std.specs.Option.{option_or}
use Rattle.tw_base.specs.history.Asking.{first_above}
use Rattle.tw_base.specs.history.Tree.{IsRising, entries}
use Rattle.tw_tree.specs.TreeMeaning.{meant_tree}
use Rattle.tw_tree.proofs.searching.after.Given as goal

abbrev pub invariant-loop-here : goal.invariant-loop-here
invariant-loop-here l = record {
  rising : IsRising (entries (meant_tree l.here));
  same : option_or (first_above (entries (meant_tree l.here)) l.key) l.nearest ≡ first_above
      (entries (meant_tree l.tree)) l.key;
}
