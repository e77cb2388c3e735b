use Rattle.std.proofs.Common.{sym, arith}
use Rattle.tw_events.proofs.EventTexts.{labels-halved, no_nodes, nodes-joined, root-labels, root-leaf}
use Rattle.tw_base.proofs.lemmas.kinds.HandedTexts.{hands-none, hands-same, hands-then}
use Rattle.tw_events.proofs.told_root.+root_over_leaves.Goals as goal

pub returns-in-len1-clause-root : goal.returns-in-len1-clause-root
returns-in-len1-clause-root g t c = λ events is. root-leaf g.T.Transcript.dig events c.args.leaves.now
    c.leaf-item.result (omega arith) is c.leaf-item.is

pub returns-in-len1-clause-took : goal.returns-in-len1-clause-took
returns-in-len1-clause-took g t c = λ events is.
    hands-same g.T.Transcript.took _ _ _ _ (sym (no_nodes g.T.Transcript.dig events c.args.leaves.now (omega arith) is))
    (hands-none g.T.Transcript.took c.args.texts.now)

pub returns-in_default-clause-root : goal.returns-in_default-clause-root
returns-in_default-clause-root g t c = λ events is.
    let halves = labels-halved g.T.Transcript.dig events c.args.leaves.now c.split_at.result.0.now
    c.split_at.result.1.now c.left_count.result is c.left_count.ensures.value
    c.split_at.ensures.front c.split_at.ensures.back in
    root-labels g.T.Transcript.dig events c.args.leaves.now c.root_over_leaves-left_root.result
    c.root_over_leaves-right_root.result c.event_node_told.result (omega arith) is
    (c.root_over_leaves-left_root.ensures.root _ halves.0) (c.root_over_leaves-right_root.ensures.root _ halves.1)
    c.event_node_told.ensures.label

pub returns-in_default-clause-took : goal.returns-in_default-clause-took
returns-in_default-clause-took g t c = λ events is.
    let halves = labels-halved g.T.Transcript.dig events c.args.leaves.now c.split_at.result.0.now
    c.split_at.result.1.now c.left_count.result is c.left_count.ensures.value
    c.split_at.ensures.front c.split_at.ensures.back in
    hands-same g.T.Transcript.took _ _ _ _
    (nodes-joined g.T.Transcript.dig events c.args.leaves.now c.root_over_leaves-left_root.result
    c.root_over_leaves-right_root.result (omega arith) is
    (c.root_over_leaves-left_root.ensures.root _ halves.0) (c.root_over_leaves-right_root.ensures.root _ halves.1))
    (hands-then g.T.Transcript.took _ _ _ _ _
    (hands-then g.T.Transcript.took _ _ _ _ _ (c.root_over_leaves-left_root.ensures.took _ halves.0)
    (c.root_over_leaves-right_root.ensures.took _ halves.1))
    c.event_node_told.ensures.took)
