use Rattle.std.proofs.Common.{◌≡◌, ◌<◌, List, length, get_or}
use Rattle.std.specs.Prelude.{map}
use Rattle.tw_base.specs.history.Auth.{tree_label}
use Rattle.tw_base.specs.history.Tree.{Tree}
use Rattle.tw_base.specs.history.Tree.Tree.{Empty}
use Rattle.tw_base.specs.kinds.Handing.{Hands}
use Rattle.tw_history.proofs.Passes.{labels_to, nodes_to}
use Rattle.tw_history.proofs.pass.label_nodes.Given as goal

abbrev pub invariant-loop-node : goal.invariant-loop-node
invariant-loop-node g l = record {
  some : 0 < length l.tree_labels;
  labelled : (trees : List Tree) → l.initial.tree_labels ≡ map (tree_label g.T.Transcript.dig) trees
      → get_or trees 0 Empty ≡ Empty
      → l.tree_labels ≡ labels_to g.T.Transcript.dig l.history l.step l.fresh trees l.node-index;
  took : (trees : List Tree) → l.initial.tree_labels ≡ map (tree_label g.T.Transcript.dig) trees → get_or trees 0 Empty
      ≡ Empty
      → Hands g.T.Transcript.took l.initial.texts l.texts (nodes_to g.T.Transcript.dig l.history l.step l.fresh trees
      l.node-index);
}
