use Rattle.std.proofs.Common.{◌≡◌}
use Rattle.tw_base.specs.history.TreeProofs.{place_of_ask}
use Rattle.tw_tree.specs.TreeMeaning.{meant_tree}
use Rattle.tw_tree.proofs.proving.place.Given as goal

abbrev pub invariant-loop-here : goal.invariant-loop-here
invariant-loop-here l = place_of_ask l.ask (meant_tree l.here) ≡ place_of_ask l.ask (meant_tree l.tree)
