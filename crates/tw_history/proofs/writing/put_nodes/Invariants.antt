use Rattle.tw_base.specs.history.HistoryCodec.{node_codec}
use Rattle.tw_base.proofs.lemmas.format.PutLaws.{ManyPut}
use Rattle.tw_history.specs.Tables.{node_of}
use Rattle.tw_history.proofs.writing.put_nodes.Given as goal

abbrev pub invariant-loop-node : goal.invariant-loop-node
invariant-loop-node l = ManyPut (λ n. node_codec.write (node_of n)) (λ n. node_codec.Fits (node_of n)) l.initial.into
    l.into l.nodes l.node-index
