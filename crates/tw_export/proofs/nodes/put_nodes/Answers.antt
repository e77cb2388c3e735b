use Rattle.std.proofs.Common.{ℕ, List, ◌++◌, ap, sym, ◌∙◌}
use Rattle.std.proofs.lemmas.List.Folds.{flat_map-map}
use Rattle.tw_base.specs.history.HistoryCodec.{node_codec}
use Rattle.tw_base.proofs.lemmas.format.PutLaws.{put-all}
use Rattle.tw_rbtree.specs.declared.new_node.NewNode.{NewNode}
use Rattle.tw_export.specs.NodeNumbers.{numbered_node}
use Rattle.tw_export.specs.Told.{numbers_in}
use Rattle.tw_export.proofs.nodes.put_nodes.Goals as goal

pub returns : goal.returns
returns c =
    let all =
    put-all (λ (n : NewNode). node_codec.write (numbered_node (numbers_in c.args.numbers.now) c.args.before n))
    (λ n. Unit {0}) c.args.into.now c.loop-node.into c.args.nodes.now c.loop-node.node-index c.loop-node-test.false
    c.loop-node.invariant in
    all.0 ∙ ap (λ (w : List ℕ). c.args.into.now ++ w)
    (sym (flat_map-map node_codec.write (numbered_node (numbers_in c.args.numbers.now) c.args.before) c.args.nodes.now))
