use Rattle.std.proofs.Common.{◌≡◌, ◌↔◌, ◌+◌, drop, map}
use Rattle.tw_base.specs.history.Rules.{NodesFit}
use Rattle.tw_history.specs.Tables.{node_of}
use Rattle.tw_history.proofs.soundness.nodes.are_known.Given as goal

abbrev pub invariant-loop-node : goal.invariant-loop-node
invariant-loop-node l = record {
  counted : l.number ≡ l.first + l.node-index;
  rest : NodesFit l.history l.step l.first (map node_of l.nodes) ↔ NodesFit l.history l.step l.number
      (map node_of (drop l.node-index l.nodes));
}
