use Rattle.std.proofs.Common.{ℕ, List, [], ◌∙◌, sym}
use Rattle.tw_base.specs.declared.history.tree_proof.TreeProof.TheVariants.{Present}
use Rattle.tw_pieces.proofs.SegmentLaws.{attempts-ended, attempts-missed}
use Rattle.tw_verifier.specs.declared.stage.Stage.TheVariants.{Tree}
use Rattle.tw_verifier.specs.Stages.{behind_tree, nodes_of, present_head, rest}
use Rattle.tw_verifier.proofs.StageForms.{present-flat}
use Rattle.tw_verifier.proofs.StageLaws.{nodes-goes, present-head-lawful, present-head-nothing, tree-goes}
use Rattle.tw_verifier.proofs.tree_attempts.attempt_present.Goals as goal

pub returns-in-Ok : goal.returns-in-Ok
returns-in-Ok g c =
    attempts-ended (rest g.H.Hasher.dig c.args.anchors.now) present_head present-head-lawful
    (λ (t : ℕ × (List ℕ × List ℕ)). nodes_of g.H.Hasher.dig c.args.anchors.now
    (behind_tree g.H.Hasher.dig c.args.anchors.now c.args.asked) (Present t.1.0 t.1.1 []) t.0) present-head-nothing
    (Tree c.args.asked) c.behind_labels.result c.args.held.now c.take_present_head.new.at c.in-Ok.head
    (c.requires ∙ present-flat (behind_tree g.H.Hasher.dig c.args.anchors.now c.args.asked))
    (sym c.behind_labels.ensures) c.in-Ok.ensures.takes.0

pub returns-in-Err : goal.returns-in-Err
returns-in-Err g c =
    attempts-missed (rest g.H.Hasher.dig c.args.anchors.now) present_head present-head-lawful
    (λ (t : ℕ × (List ℕ × List ℕ)). nodes_of g.H.Hasher.dig c.args.anchors.now
    (behind_tree g.H.Hasher.dig c.args.anchors.now c.args.asked) (Present t.1.0 t.1.1 []) t.0)
    (λ t fits. nodes-goes g.H.Hasher.dig c.args.anchors.now (behind_tree g.H.Hasher.dig c.args.anchors.now c.args.asked)
    (tree-goes g.H.Hasher.dig c.args.anchors.now c.args.asked) (Present t.1.0 t.1.1 []) t.0)
    (λ t. t) (Tree c.args.asked) c.args.held.now c.take_present_head.new.at c.in-Err.fault c.missed.result
    (c.requires ∙ present-flat (behind_tree g.H.Hasher.dig c.args.anchors.now c.args.asked)) c.in-Err.ensures.takes
    c.missed.ensures
