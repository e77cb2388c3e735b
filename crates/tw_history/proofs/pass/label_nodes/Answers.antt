use Rattle.std.proofs.Common.{◌++◌, ◌∷◌, List, [], length, take, ap, sym, ◌∙◌, arith}
use Rattle.std.specs.Prelude.{map}
use Rattle.std.proofs.lemmas.List.{length_push}
use Rattle.tw_base.specs.history.History.{entry_to}
use Rattle.tw_base.specs.history.Tree.{Tree, planted}
use Rattle.tw_base.proofs.lemmas.kinds.HandedTexts.{hands-none, hands-same, hands-then}
use Rattle.tw_history.specs.declared.step.Node.{Node}
use Rattle.tw_history.specs.Tables.{node_of}
use Rattle.tw_history.proofs.Passes.{first-stays, labels_to-all, labels_to-more, labels_to-none, nodes_to-all}
use Rattle.tw_history.proofs.Passes.{nodes_to-more, nodes_to-none}
use Rattle.tw_history.proofs.pass.label_nodes.Goals as goal

pub loop-node-init : goal.loop-node-init
loop-node-init g c = record {
  some = c.requires;
  labelled = λ trees labels first. labels ∙ sym (labels_to-none g.T.Transcript.dig c.args.history.now c.args.step
      c.args.fresh.now trees);
  took = λ trees labels first.
      hands-same g.T.Transcript.took _ _ _ _ (nodes_to-none g.T.Transcript.dig c.args.history.now c.args.step
      c.args.fresh.now trees) (hands-none g.T.Transcript.took c.args.texts.now);
}

pub loop-node-preserved : goal.loop-node-preserved
loop-node-preserved g c =
    let none : Node = record { left = 0; entry = 0; right = 0 } in
    let planted_so_far : (trees : List Tree) → List Tree = λ trees. planted (entry_to c.args.history.now c.args.step)
    trees (map node_of (take c.loop-node.node-index c.args.fresh.now)) in
    record {
      some = omega
          (arith, ap length c.in_ok-push.ensures.ok, length_push c.loop-node.tree_labels c.label_of_node-label.result);
      labelled = λ trees labels first.
          let so_far = c.loop-node.invariant.labelled trees labels first in
          let told = c.label_of_node-label.ensures (trees ++ planted_so_far trees) (c.as_slice.ensures.value ∙ so_far)
          (first-stays g.T.Transcript.dig trees (planted_so_far trees) c.args.tree_labels.now labels c.requires first)
          in
          c.in_ok-push.ensures.ok ∙ (λ k. so_far k ++ told.label_is k ∷ [])
          ∙ sym (labels_to-more g.T.Transcript.dig c.args.history.now c.args.step c.args.fresh.now trees
          c.loop-node.node-index none (omega arith));
      took = λ trees labels first.
          let so_far = c.loop-node.invariant.labelled trees labels first in
          let told = c.label_of_node-label.ensures (trees ++ planted_so_far trees) (c.as_slice.ensures.value ∙ so_far)
          (first-stays g.T.Transcript.dig trees (planted_so_far trees) c.args.tree_labels.now labels c.requires first)
          in
          hands-same g.T.Transcript.took _ _ _ _
          (nodes_to-more g.T.Transcript.dig c.args.history.now c.args.step c.args.fresh.now trees c.loop-node.node-index
          none (omega arith))
          (hands-then g.T.Transcript.took _ _ _ _ _ (c.loop-node.invariant.took trees labels first) told.took_top);
    }

pub returns : goal.returns
returns g c = record {
  labels = λ trees labels first.
      c.loop-node.invariant.labelled trees labels first
      ∙ labels_to-all g.T.Transcript.dig c.args.history.now c.args.step c.args.fresh.now trees c.loop-node.node-index
      (omega arith);
  took = λ trees labels first.
      hands-same g.T.Transcript.took _ _ _ _ (nodes_to-all g.T.Transcript.dig c.args.history.now c.args.step
      c.args.fresh.now trees c.loop-node.node-index (omega arith))
      (c.loop-node.invariant.took trees labels first);
}
