use Rattle.std.proofs.Common.{drop, map}
use Rattle.tw_history.specs.Tables.{node_of}
use Rattle.tw_history.proofs.Planting.{Planted}
use Rattle.tw_history.proofs.soundness.nodes.plant.Given as goal

abbrev pub invariant-loop-node : goal.invariant-loop-node
invariant-loop-node l = Planted l.history l.earlier l.summaries.items (map node_of (drop l.node-index l.nodes))
