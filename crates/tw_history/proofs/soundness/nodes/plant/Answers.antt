use Rattle.std.proofs.Common.{◌≡◌, ℕ, ◌+◌, ◌<◌, List, [], ◌∷◌, ◌++◌, length, get_or, sym, subst, drop, map}
use Rattle.std.proofs.Math.ListN.{drop_of_length-le}
use Rattle.tw_base.specs.history.History.{History}
use Rattle.tw_history.specs.Tables.{node_of}
use Rattle.tw_history.specs.declared.step.Node.{Node as NodeOfTable}
use Rattle.tw_history.specs.declared.soundness.summary.Summary.{Summary}
use Rattle.tw_history.proofs.Summaries.{is_false}
use Rattle.tw_history.proofs.Planting.{Planted, entry-of_node, nodes_left, planted-breaks, planted-first, planted-last}
use Rattle.tw_history.proofs.Planting.{planted-next, rises_by}
use Rattle.tw_history.proofs.soundness.nodes.plant.Goals as goal

pub loop-node-init : goal.loop-node-init
loop-node-init c = planted-first _ _ _ _ c.requires.fresh c.requires.before c.requires.rising c.requires.known

abbrev no_node : NodeOfTable
no_node = record { left = 0; entry = 0; right = 0 }

-- the invariant at a node
at_node : (h : History) (i : ℕ) (summaries : List Summary) (nodes : List NodeOfTable) (k : ℕ) → k < length nodes
    → Planted h i summaries (map node_of (drop k nodes)) → Planted h i summaries
    (node_of (get_or nodes k no_node) ∷ map node_of (drop (k + 1) nodes))
at_node h i summaries nodes k within p = subst (Planted h i summaries) (nodes_left nodes k no_node within) p

pub returns-then-not-rises-clause-fallen : goal.returns-then-not-rises-clause-fallen
returns-then-not-rises-clause-fallen c _ =
    let p = at_node _ _ _ c.args.nodes.now c.loop-node.node-index c.loop-node-test.true c.loop-node.invariant in
    let e = entry-of_node _ _ _ _ _ p in
    let test = rises_by _ _ _ _ _ p _ _ _ _ _ c.index.ensures c.index-in-loop-node.ensures c.rises.ensures in
    planted-breaks _ _ _ _ _ p e.0 e.1 c.requires.rising (λ rises. is_false _ c.if-not-rises.true (test.2.1 rises))

pub loop-node-preserved : goal.loop-node-preserved
loop-node-preserved c =
    let p = at_node _ _ _ c.args.nodes.now c.loop-node.node-index c.loop-node-test.true c.loop-node.invariant in
    let e = entry-of_node _ _ _ _ _ p in
    let test = rises_by _ _ _ _ _ p _ _ _ _ _ c.index.ensures c.index-in-loop-node.ensures c.rises.ensures in
    let made = c.of_branch-summary.ensures _ _ e.0 test.0 test.1 e.3 in
    let next = planted-next _ _ _ _ _ p e.0 c.of_branch-summary.result e.1 made (test.2.0 c.if-not-rises.false) in
    let pushed : c.push.new.self.items ≡ c.loop-node.summaries.items ++ c.of_branch-summary.result ∷ [] =
    c.in_ok-push.ensures.items in
    subst (λ ys. Planted c.args.history.now c.args.earlier ys
    (map node_of (drop (c.loop-node.node-index + 1) c.args.nodes.now))) (sym pushed) next

pub returns-clause-risen : goal.returns-clause-risen
returns-clause-risen c _ =
    let done = drop_of_length-le c.args.nodes.now c.loop-node-test.false in
    planted-last c.args.history.now c.args.earlier _
    (subst (λ ns. Planted c.args.history.now c.args.earlier c.loop-node.summaries.items (map node_of ns)) done
    c.loop-node.invariant)
