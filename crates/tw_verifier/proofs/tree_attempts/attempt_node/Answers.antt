use Rattle.std.proofs.Common.{[], ◌∷◌, ◌-◌, refl, sym}
use Rattle.tw_base.specs.declared.history.tree_proof.Ancestor.{Ancestor}
use Rattle.tw_pieces.proofs.SegmentLaws.{attempts-ended, attempts-missed}
use Rattle.tw_treeproof.specs.Codecs.{ancestor_codec}
use Rattle.tw_treeproof.proofs.LawfulCodecs.{ancestor-lawful}
use Rattle.tw_verifier.specs.declared.stage.Stage.TheVariants.{Nodes}
use Rattle.tw_verifier.specs.Stages.{behind_tree, nodes_of, rest, with_tree_nodes}
use Rattle.tw_verifier.proofs.StageLaws.{ancestor-nothing, nodes-goes, tree-goes}
use Rattle.tw_verifier.proofs.tree_attempts.attempt_node.Goals as goal

pub returns-in_ok-next-in-Ok : goal.returns-in_ok-next-in-Ok
returns-in_ok-next-in-Ok g c =
    let climb = c.args.climb in
    attempts-ended (rest g.H.Hasher.dig c.args.anchors.now) ancestor_codec ancestor-lawful
    (λ (a : Ancestor). nodes_of g.H.Hasher.dig c.args.anchors.now (behind_tree g.H.Hasher.dig c.args.anchors.now
    climb.asked) (with_tree_nodes climb.shown (a ∷ [])) (climb.more - 1)) ancestor-nothing
    (Nodes climb) c.in_ok-next-in-Ok.next c.args.held.now c.take_ancestor.new.at c.in-Ok.node refl
    (sym c.in_ok-next-in-Ok.ensures) c.in-Ok.ensures.0

pub returns-in-Err : goal.returns-in-Err
returns-in-Err g c =
    let climb = c.args.climb in
    attempts-missed (rest g.H.Hasher.dig c.args.anchors.now) ancestor_codec ancestor-lawful
    (λ (a : Ancestor). nodes_of g.H.Hasher.dig c.args.anchors.now (behind_tree g.H.Hasher.dig c.args.anchors.now
    climb.asked) (with_tree_nodes climb.shown (a ∷ [])) (climb.more - 1))
    (λ a fits. nodes-goes g.H.Hasher.dig c.args.anchors.now (behind_tree g.H.Hasher.dig c.args.anchors.now climb.asked)
    (tree-goes g.H.Hasher.dig c.args.anchors.now climb.asked) (with_tree_nodes climb.shown (a ∷ [])) (climb.more - 1))
    (λ a. a) (Nodes climb) c.args.held.now c.take_ancestor.new.at c.in-Err.fault c.missed.result refl c.in-Err.ensures
    c.missed.ensures
