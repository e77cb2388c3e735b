use Rattle.std.proofs.Common.{get_or, ap, ◌∙◌}
use Rattle.tw_base.specs.history.Auth.{tree_label}
use Rattle.tw_base.specs.history.History.{entry_to}
use Rattle.tw_base.specs.history.Tree.Tree.{Empty}
use Rattle.tw_history.proofs.Passes.{told-none, told-some}
use Rattle.tw_history.proofs.pass.label_of_node.Goals as goal

pub returns-in-None : goal.returns-in-None
returns-in-None g c = λ trees labels first.
    told-none g.T.Transcript.dig g.T.Transcript.took c.args.texts.now (entry_to c.args.history.now c.args.step
    c.args.node.now.entry)
    (get_or trees c.args.node.now.left Empty) (get_or trees c.args.node.now.right Empty) c.label_of_tree.result.now
    c.in-None.ensures
    (c.label_of_tree.ensures g.T.Transcript.dig trees labels first ∙ ap (tree_label g.T.Transcript.dig) first)

pub returns-in-Some : goal.returns-in-Some
returns-in-Some g c = λ trees labels first.
    told-some g.T.Transcript.dig g.T.Transcript.took c.args.texts.now c.tree_node_told.new.texts
    (entry_to c.args.history.now c.args.step c.args.node.now.entry) c.in-Some.entry
    (get_or trees c.args.node.now.left Empty) (get_or trees c.args.node.now.right Empty)
    c.label_of_tree-left.result.now c.label_of_tree-right.result.now c.tree_node_told.result c.in-Some.ensures
    (c.label_of_tree-left.ensures g.T.Transcript.dig trees labels first)
    (c.label_of_tree-right.ensures g.T.Transcript.dig trees labels first)
    c.tree_node_told.ensures.label c.tree_node_told.ensures.took
