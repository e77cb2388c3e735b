use Rattle.std.proofs.Common.{◌++◌, ap, sym, ◌∙◌}
use Rattle.std.proofs.lemmas.List.{get_or_default, length-map}
use Rattle.std.proofs.lemmas.List.Folds.{flat_map-map}
use Rattle.tw_base.specs.format.Codecs.{many}
use Rattle.tw_base.specs.history.HistoryCodec.{node_codec}
use Rattle.tw_base.proofs.lemmas.format.PutLaws.{put-all, put-more, put-none}
use Rattle.tw_history.specs.declared.step.Node.{Node}
use Rattle.tw_history.specs.Tables.{node_of}
use Rattle.tw_history.proofs.WritingLaws.{Each-seen}
use Rattle.tw_history.proofs.writing.put_nodes.Goals as goal

pub loop-node-init : goal.loop-node-init
loop-node-init c = put-none (λ (n : Node). node_codec.write (node_of n)) (λ n. node_codec.Fits (node_of n))
    c.args.into.now c.args.nodes.now

pub loop-node-preserved : goal.loop-node-preserved
loop-node-preserved c =
    put-more (λ (n : Node). node_codec.write (node_of n)) (λ n. node_codec.Fits (node_of n)) c.args.into.now
    c.loop-node.into _ c.args.nodes.now c.loop-node.node-index _ c.loop-node-test.true
    (get_or_default c.args.nodes.now c.loop-node.node-index _ _ c.loop-node-test.true)
    c.loop-node.invariant c.in_ok-put_node.ensures.0 c.in_ok-put_node.ensures.1

pub returns : goal.returns
unfolding many
returns c =
    let all = put-all (λ (n : Node). node_codec.write (node_of n)) (λ n. node_codec.Fits (node_of n)) c.args.into.now
    c.loop-node.into c.args.nodes.now c.loop-node.node-index c.loop-node-test.false c.loop-node.invariant in (
      all.0 ∙ ap (λ w. c.args.into.now ++ w) (sym (flat_map-map node_codec.write node_of c.args.nodes.now)),
      (length-map c.args.nodes.now node_of, Each-seen node_codec.Fits node_of c.args.nodes.now all.1),
    )
