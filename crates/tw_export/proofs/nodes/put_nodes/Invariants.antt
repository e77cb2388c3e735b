use Rattle.tw_base.specs.history.HistoryCodec.{node_codec}
use Rattle.tw_base.proofs.lemmas.format.PutLaws.{ManyPut}
use Rattle.tw_export.specs.NodeNumbers.{numbered_node}
use Rattle.tw_export.specs.Told.{numbers_in}
use Rattle.tw_export.proofs.nodes.put_nodes.Given as goal

abbrev pub invariant-loop-node : goal.invariant-loop-node
invariant-loop-node l = ManyPut (λ n. node_codec.write (numbered_node (numbers_in l.numbers) l.before n))
    (λ n. Unit {0}) l.initial.into l.into l.nodes l.node-index
